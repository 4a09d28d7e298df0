-- The texts of a run, as its files tell them.
use Rattle.std.specs.Prelude.{◌≡◌, ℕ, ◌<◌, ◌≤◌, ◌⊎◌, List, [], ◌∷◌, ◌++◌, length, Option, Some, Ok, Err}
use Rattle.std.specs.Option.{IfSome}
use Rattle.obj_edges.specs.Told.{Contents, HasBytes, IsLonger}
use Rattle.schema_kinds.specs.declared.tree.ClassTree.{ClassTree}
use Rattle.class_tokens.specs.declared.error.ClassWhy.{ClassWhy}
use Rattle.class_reader.specs.ClassReading.{reading}
use Rattle.class_link.specs.declared.error.LinkWhy.{LinkWhy}
use Rattle.class_link.specs.Refusal.{Has}
use Rattle.text_reading.specs.declared.stop.Refusal.{Refusal}
use Rattle.first_class.specs.declared.form.TextClass.{TextClass}
use Rattle.first_class.specs.TextClasses.{IsTextClass}
use Rattle.first_path.specs.Lines.{Line}
use Rattle.first_path.specs.Script.{IsScript}
use Rattle.first_path.specs.declared.act.Act.{Act}
use Rattle.host_top.specs.Words.{Names, AreRunWords}

-- the most bytes of a file
abbrev pub max_file_len : ℕ
max_file_len = 16777216

-- the names of a run, and the texts of its two files
pub record Input : Type 0 where
  pub names : Names
  pub class_text : List ℕ
  pub script_text : List ℕ

-- where the names asked so far are told, these stand at their end afterwards
abbrev pub AsksAll : Option (List (List ℕ)) → Option (List (List ℕ)) → List (List ℕ) → Type 0
AsksAll old new names = IfSome old (λ before. new ≡ Some (before ++ names))

-- where something is told of the name, it has this text
abbrev pub Tells : (List ℕ → Contents) → List ℕ → List ℕ → Type 0
Tells contents name text = HasBytes (contents name) text

-- where something is told of the name, it has more bytes than a file may have
abbrev pub TellsTooLong : (List ℕ → Contents) → List ℕ → Type 0
TellsTooLong contents name = IsLonger (contents name) max_file_len

-- both files were read once, in the order of the words, and no other name was asked
pub record AreRead (words : List (List ℕ)) (contents : List ℕ → Contents) (asked asked' : Option (List (List ℕ))) (input : Input) : Type 0 where
  pub words_are : AreRunWords words input.names
  pub class_told : Tells contents input.names.class input.class_text
  pub script_told : Tells contents input.names.script input.script_text
  pub class_short : length input.class_text ≤ max_file_len
  pub script_short : length input.script_text ≤ max_file_len
  pub asks : AsksAll asked asked' (input.names.class ∷ input.names.script ∷ [])

-- the class file says these classes
abbrev pub Declares : List ℕ → List ClassTree → Type 0
Declares class_text trees = reading class_text ≡ Ok trees

-- the class file isn't in its grammar: this is the first refusal
abbrev pub IsMisspelt : List ℕ → Refusal ClassWhy → Type 0
IsMisspelt class_text r = reading class_text ≡ Err r

-- no class has a reason against linking it
abbrev pub CanLink : List ClassTree → Type 0
CanLink trees = (i : ℕ) (why : LinkWhy) → i < length trees → Has trees i why → ⊥

-- the texts are those of a class of text properties and of a script for it
pub record InForm (trees : List ClassTree) (script_text : List ℕ) (class : TextClass) (lines : List Line) (acts : List Act) : Type 0 where
  pub class_form : IsTextClass trees class
  pub script_form : IsScript class.name.0 class.props script_text lines acts

-- no class, lines and acts make them such
abbrev pub NotInForm : List ClassTree → List ℕ → Type 0
NotInForm trees script_text = (class : TextClass) (lines : List Line) (acts : List Act) → InForm trees script_text class lines acts → ⊥

-- the class file says classes that link, and with the script they are in the form
pub record IsUnderstood (class_text script_text : List ℕ) (class : TextClass) (lines : List Line) (acts : List Act) : Type 0 where
  pub trees : List ClassTree
  pub said : Declares class_text trees
  pub links : CanLink trees
  pub form : InForm trees script_text class lines acts
