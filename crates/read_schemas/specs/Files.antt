-- Classes that come from class files, and what linking them gives.
use Rattle.std.specs.Prelude.{◌≡◌, ℕ, List, [], ◌∷◌, ◌++◌, Ok}
use Rattle.schema_kinds.specs.declared.class.Class.{Class}
use Rattle.schema_kinds.specs.declared.tree.ClassTree.{ClassTree}
use Rattle.class_reader.specs.ClassReading.{reading}
use Rattle.class_link.specs.Linking.{IsLinked}
use Rattle.linked_storage.specs.Linked.{HasNoWholeType}
use Rattle.linked_runs.specs.Laws.{HaveNoRepeats}
use Rattle.good_calls.specs.Laws.{IsSoundSchema}

-- the classes that the texts of class files declare, file by file
abbrev pub AreRead : List (List ℕ) → List ClassTree → Type 0
AreRead [] trees = trees ≡ []
AreRead (text ∷ texts) trees = (here : List ClassTree) × (behind : List ClassTree) × (reading text ≡ Ok here) × AreRead texts behind × (trees ≡ here ++ behind)

abbrev pub ClassesHaveNamesOfTheirOwn : Type 0
ClassesHaveNamesOfTheirOwn = (texts : List (List ℕ)) (trees : List ClassTree) → AreRead texts trees → HasNoWholeType trees × HaveNoRepeats trees

abbrev pub SchemasOfFilesAreSound : Type 0
SchemasOfFilesAreSound = (texts : List (List ℕ)) (trees : List ClassTree) (schema : List Class) → AreRead texts trees → IsLinked trees schema → IsSoundSchema schema
