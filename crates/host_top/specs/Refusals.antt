-- Why a run is refused, and what is known then.
use Rattle.std.specs.Prelude.{◌≡◌, ℕ, ◌≤◌, ◌⊎◌, List, [], ◌∷◌, ◌++◌, length, codes, Option}
use Rattle.std.specs.Fmt.{decimal}
use Rattle.obj_kinds.specs.declared.name.ClassName.{ClassName}
use Rattle.obj_edges.specs.Told.{Contents, Rises, Asks}
use Rattle.schema_kinds.specs.declared.tree.ClassTree.{ClassTree}
use Rattle.class_tokens.specs.declared.error.ClassWhy.{ClassWhy}
use Rattle.class_reader.specs.ClassReading.{IsPlaced}
use Rattle.class_link.specs.declared.error.LinkWhy.{LinkWhy}
use Rattle.class_link.specs.declared.error.LinkError.TheVariants as link
use Rattle.class_link.specs.Linking as linking
use Rattle.text_reading.specs.declared.stop.Refusal as reading
use Rattle.first_class.specs.declared.form.TextClass.{TextClass}
use Rattle.first_class.specs.TextClasses.{IsTextClass}
use Rattle.first_path.specs.Lines.{Line}
use Rattle.first_path.specs.Script.{IsScript}
use Rattle.first_path.specs.declared.act.Act.{Act}
use Rattle.host_top.specs.Words.{Names, AreRunWords, AreNoRunWords}
use Rattle.host_top.specs.Texts.{Input, AsksAll, Tells, TellsTooLong, max_file_len, AreRead, Declares, IsMisspelt, CanLink, NotInForm}
use Rattle.host_top.specs.Whys.{class_why_text, link_why_text}
use Rattle.host_top.specs.declared.refusal.Refusal.{Refusal}
use Rattle.host_top.specs.declared.refusal.Refusal.TheVariants.{BadWords, TooLong, NotRead, BadClass, BadLink, BadForm, Memory}

-- the files asked up to the first one that is refused: the class file alone, or the script behind it
abbrev pub AskedUpTo : Names → Option (List (List ℕ)) → Option (List (List ℕ)) → List ℕ → Type 0
AskedUpTo names asked asked' name =
    ((name ≡ names.class) × AsksAll asked asked' (names.class ∷ [])) ⊎ ((name ≡ names.script) × AsksAll asked asked' (names.class ∷ names.script ∷ []))

-- the file of this name has too many bytes, and a class file before it was read and has not
pub record IsTooLong (words : List (List ℕ)) (contents : List ℕ → Contents) (asked asked' : Option (List (List ℕ))) (name : List ℕ) : Type 0 where
  pub names : Names
  pub words_are : AreRunWords words names
  pub asks : AskedUpTo names asked asked' name
  pub too_long : TellsTooLong contents name

-- the read of the file of this name failed
pub record IsNotRead (words : List (List ℕ)) (asked asked' : Option (List (List ℕ))) (faults faults' : ℕ) (name : List ℕ) : Type 0 where
  pub names : Names
  pub words_are : AreRunWords words names
  pub asks : AskedUpTo names asked asked' name
  pub rises : Rises faults faults'

-- the text of a class file is refused first at this line and column, for this reason
abbrev pub IsMisspeltAt : List ℕ → ℕ → ℕ → ClassWhy → Type 0
IsMisspeltAt text line column why = (r : reading.Refusal ClassWhy) × IsMisspelt text r × IsPlaced text r line column why

-- this class is the first that can't be linked, and this is its first reason
abbrev pub IsUnlinked : List ClassTree → ClassName → LinkWhy → Type 0
IsUnlinked trees class why = linking.IsRefusal trees (link.BadLink class why)

-- the files were read, and the class file isn't in its grammar
pub record IsBadClass (words : List (List ℕ)) (contents : List ℕ → Contents) (asked asked' : Option (List (List ℕ))) (name : List ℕ) (line column : ℕ) (why : ClassWhy) : Type 0 where
  pub input : Input
  pub read : AreRead words contents asked asked' input
  pub named : name ≡ input.names.class
  pub misspelt : IsMisspeltAt input.class_text line column why

-- the files were read, and the classes of the class file can't be linked
pub record IsBadLink (words : List (List ℕ)) (contents : List ℕ → Contents) (asked asked' : Option (List (List ℕ))) (class : ClassName) (why : LinkWhy) : Type 0 where
  pub input : Input
  pub read : AreRead words contents asked asked' input
  pub trees : List ClassTree
  pub said : Declares input.class_text trees
  pub unlinked : IsUnlinked trees class why

-- the files were read and the classes link, but they and the script aren't in the forms that are built
pub record IsBadForm (words : List (List ℕ)) (contents : List ℕ → Contents) (asked asked' : Option (List (List ℕ))) : Type 0 where
  pub input : Input
  pub read : AreRead words contents asked asked' input
  pub trees : List ClassTree
  pub said : Declares input.class_text trees
  pub links : CanLink trees
  pub not_in_form : NotInForm trees input.script_text

abbrev pub IsRefused : List (List ℕ) → (List ℕ → Contents) → Option (List (List ℕ)) → Option (List (List ℕ)) → ℕ → ℕ → Refusal → Type 0
IsRefused words contents asked asked' faults faults' BadWords = AreNoRunWords words × (asked' ≡ asked)
IsRefused words contents asked asked' faults faults' (TooLong name) = IsTooLong words contents asked asked' name.now
IsRefused words contents asked asked' faults faults' (NotRead name) = IsNotRead words asked asked' faults faults' name.now
IsRefused words contents asked asked' faults faults' (BadClass name line column why) = IsBadClass words contents asked asked' name.now line column why
IsRefused words contents asked asked' faults faults' (BadLink class why) = IsBadLink words contents asked asked' class why
IsRefused words contents asked asked' faults faults' BadForm = IsBadForm words contents asked asked'
IsRefused words contents asked asked' faults faults' Memory = Unit {0}

-- the line that tells of the words of a run
abbrev pub usage : List ℕ
usage = codes "usage: objstep run [--load FILE] [--schedule FILE] [--fuel N] [--tries N] [--volume N] [--order] FILE...\n"

-- the line that tells where and why a class file isn't in its grammar
abbrev pub place_message : List ℕ → ℕ → ℕ → ClassWhy → List ℕ
place_message name line column why =
    name ++ codes ":" ++ decimal line ++ codes ":" ++ decimal column ++ codes ": " ++ class_why_text why ++ codes "\n"

-- the line that tells which class can't be linked, and why
abbrev pub class_message : ClassName → LinkWhy → List ℕ
class_message class why = codes "class " ++ class.0 ++ codes ": " ++ link_why_text why ++ codes "\n"

-- what is put into the sink
abbrev pub message_of : Refusal → List ℕ
message_of BadWords = usage
message_of (TooLong name) = name.now ++ codes ": too long\n"
message_of (NotRead name) = name.now ++ codes ": not read\n"
message_of (BadClass name line column why) = place_message name.now line column why
message_of (BadLink class why) = class_message class why
message_of BadForm = codes "not built\n"
message_of Memory = []

abbrev pub status_of : Refusal → ℕ
status_of BadWords = 7
status_of (TooLong name) = 2
status_of (NotRead name) = 4
status_of (BadClass name line column why) = 2
status_of (BadLink class why) = 2
status_of BadForm = 8
status_of Memory = 3

-- why the file of this name isn't read
abbrev pub IsFileRefused : (List ℕ → Contents) → Option (List (List ℕ)) → Option (List (List ℕ)) → ℕ → ℕ → List ℕ → Refusal → Type 0
IsFileRefused contents asked asked' faults faults' name BadWords = ⊥
IsFileRefused contents asked asked' faults faults' name (TooLong n) = (n.now ≡ name) × Asks asked asked' name × TellsTooLong contents name
IsFileRefused contents asked asked' faults faults' name (NotRead n) = (n.now ≡ name) × Asks asked asked' name × Rises faults faults'
IsFileRefused contents asked asked' faults faults' name (BadClass n line column why) = ⊥
IsFileRefused contents asked asked' faults faults' name (BadLink class why) = ⊥
IsFileRefused contents asked asked' faults faults' name BadForm = ⊥
IsFileRefused contents asked asked' faults faults' name Memory = Unit {0}

-- why the class file of this name and text has no classes
abbrev pub IsTextRefused : List ℕ → List ℕ → Refusal → Type 0
IsTextRefused name text BadWords = ⊥
IsTextRefused name text (TooLong n) = ⊥
IsTextRefused name text (NotRead n) = ⊥
IsTextRefused name text (BadClass n line column why) = (n.now ≡ name) × IsMisspeltAt text line column why
IsTextRefused name text (BadLink class why) = ⊥
IsTextRefused name text BadForm = ⊥
IsTextRefused name text Memory = Unit {0}

-- why these classes are no class of text properties, whether they link or not
abbrev pub IsFormRefused : List ClassTree → Refusal → Type 0
IsFormRefused trees BadWords = ⊥
IsFormRefused trees (TooLong n) = ⊥
IsFormRefused trees (NotRead n) = ⊥
IsFormRefused trees (BadClass n line column why) = ⊥
IsFormRefused trees (BadLink class why) = ⊥
IsFormRefused trees BadForm = (class : TextClass) → IsTextClass trees class → ⊥
IsFormRefused trees Memory = Unit {0}

-- why these classes don't link, or are no class of text properties
abbrev pub AreRefused : List ClassTree → Refusal → Type 0
AreRefused trees BadWords = ⊥
AreRefused trees (TooLong n) = ⊥
AreRefused trees (NotRead n) = ⊥
AreRefused trees (BadClass n line column why) = ⊥
AreRefused trees (BadLink class why) = IsUnlinked trees class why
AreRefused trees BadForm = CanLink trees × ((class : TextClass) → IsTextClass trees class → ⊥)
AreRefused trees Memory = Unit {0}

-- why the text is no script for the class
abbrev pub IsScriptRefused : TextClass → List ℕ → Refusal → Type 0
IsScriptRefused class text BadWords = ⊥
IsScriptRefused class text (TooLong n) = ⊥
IsScriptRefused class text (NotRead n) = ⊥
IsScriptRefused class text (BadClass n line column why) = ⊥
IsScriptRefused class text (BadLink c why) = ⊥
IsScriptRefused class text BadForm = (lines : List Line) (acts : List Act) → IsScript class.name.0 class.props text lines acts → ⊥
IsScriptRefused class text Memory = Unit {0}

-- why the two texts, the first of a file of this name, are no class and script
abbrev pub IsJobRefused : List ℕ → List ℕ → List ℕ → Refusal → Type 0
IsJobRefused name class_text script_text BadWords = ⊥
IsJobRefused name class_text script_text (TooLong n) = ⊥
IsJobRefused name class_text script_text (NotRead n) = ⊥
IsJobRefused name class_text script_text (BadClass n line column why) = (n.now ≡ name) × IsMisspeltAt class_text line column why
IsJobRefused name class_text script_text (BadLink class why) = (trees : List ClassTree) × Declares class_text trees × IsUnlinked trees class why
IsJobRefused name class_text script_text BadForm = (trees : List ClassTree) × Declares class_text trees × CanLink trees × NotInForm trees script_text
IsJobRefused name class_text script_text Memory = Unit {0}
