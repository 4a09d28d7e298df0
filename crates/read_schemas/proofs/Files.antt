-- Classes of class files, and schemas that are linked from them.
use Rattle.std.proofs.Common.{◌≡◌, ℕ, List, [], ◌∷◌, ◌++◌, Ok, refl, sym, subst}
use Rattle.schema_kinds.specs.declared.class.Class.{Class}
use Rattle.schema_kinds.specs.declared.tree.ClassTree.{ClassTree}
use Rattle.text_reading.specs.Places.{whole_text}
use Rattle.class_tokens.specs.ClassLex.{file_tokens}
use Rattle.class_reader.specs.ClassReading.{reading}
use Rattle.class_reader.proofs.GrammarReading.{grammar_is}
use Rattle.class_link.specs.Linking.{IsLinked}
use Rattle.linked_runs.specs.Laws.{LinkedIsStorableSchema, LinkedIsPaired}
use Rattle.good_calls.specs.Laws.{IsSoundSchema}
use Rattle.read_schemas.specs.Files.{AreRead, ClassesHaveNamesOfTheirOwn, SchemasOfFilesAreSound}
use Rattle.read_schemas.proofs.Classes.{AreOwn, own_behind, classes_say}

file_own : (text : List ℕ) (trees : List ClassTree) → reading text ≡ Ok trees → AreOwn trees
file_own text trees read = classes_say (whole_text text) (file_tokens text) trees ((grammar_is text (Ok trees) read).found trees refl)

pub files_own : ClassesHaveNamesOfTheirOwn
files_own [] trees e = subst AreOwn (sym e) (refl, tt)
files_own (text ∷ texts) trees (here, behind, read, rest, e) = subst AreOwn (sym e) (own_behind here behind (file_own text here read) (files_own texts behind rest))

pub files_sound : LinkedIsStorableSchema → LinkedIsPaired → SchemasOfFilesAreSound
files_sound storable paired texts trees schema read linked =
    let own = files_own texts trees read in
    record { storable = storable trees schema linked own.0; paired = paired trees schema linked own.0 own.1 }
