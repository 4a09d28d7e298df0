-- What the status of a run says, and which one comes.
use Rattle.std.specs.Prelude.{◌≡◌, ℕ, ◌<◌, ◌≤◌, ◌⊎◌, List, [], ◌∷◌, ◌++◌, length, Option, Some, codes}
use Rattle.obj_kinds.specs.declared.name.ClassName.{ClassName}
use Rattle.obj_edges.specs.Told.{Rises, Adds}
use Rattle.schema_kinds.specs.declared.tree.ClassTree.{ClassTree}
use Rattle.class_tokens.specs.declared.error.ClassWhy.{ClassWhy}
use Rattle.class_link.specs.declared.error.LinkWhy.{LinkWhy}
use Rattle.class_link.specs.Refusal.{Has}
use Rattle.text_reading.specs.declared.stop.Refusal.{Refusal}
use Rattle.first_class.specs.declared.form.TextClass.{TextClass}
use Rattle.first_path.specs.declared.act.Act.{Act}
use Rattle.first_path.specs.Lines.{Line}
use Rattle.host_top.specs.Words.{AreRunWords, AreNoRunWords}
use Rattle.host_top.specs.Texts.{Input, Declares, IsMisspelt, CanLink, NotInForm, IsUnderstood, max_file_len}
use Rattle.host_top.specs.Refusals.{IsTooLong, IsNotRead, IsBadClass, IsBadLink, IsBadForm, usage, place_message, class_message}
use Rattle.host_top.specs.Run.{HasInput}
use Rattle.host_top.specs.Verdict.{Seen, EndedWell, EndedByFault}

abbrev pub IsAmong : ℕ → List ℕ → Type 0
IsAmong n [] = ⊥
IsAmong n (x ∷ xs) = (n ≡ x) ⊎ IsAmong n xs

-- a text is refused, and the message says why: its file is too long, the class file isn't in its grammar, or its classes can't be linked
pub data IsTextRefused (s : Seen) : Type 0 where
  TooLong : (name : List ℕ) → IsTooLong s.words s.contents s.asked s.asked' name → Adds s.told s.told' (name ++ codes ": too long\n") → IsTextRefused s
  Misspelt : (name : List ℕ) (line column : ℕ) (why : ClassWhy) → IsBadClass s.words s.contents s.asked s.asked' name line column why → Adds s.told s.told' (place_message name line column why) → IsTextRefused s
  Unlinked : (class : ClassName) (why : LinkWhy) → IsBadLink s.words s.contents s.asked s.asked' class why → Adds s.told s.told' (class_message class why) → IsTextRefused s

-- what each status says
pub record Says (D : Type 0) (bytes : D → Option (List ℕ)) (faults : D → ℕ) (s : Seen) (devices devices' : List D) (status : ℕ) : Type 0 where
  -- all lines were done, and the report was put
  pub done : status ≡ 0 → (class : TextClass) × (acts : List Act) × HasInput s.words s.contents s.asked s.asked' class acts × EndedWell D bytes faults class acts devices devices' s.told s.told'
  -- a put of the device failed, and the report of what stands was put
  pub stopped : status ≡ 1 → (class : TextClass) × (acts : List Act) × HasInput s.words s.contents s.asked s.asked' class acts × EndedByFault D bytes faults class acts devices devices' s.told s.told'
  -- a text is refused
  pub refused : status ≡ 2 → IsTextRefused s × (devices' ≡ [])
  -- memory ran out
  pub no_memory : status ≡ 3 → devices' ≡ []
  -- the read of a file failed
  pub not_read : status ≡ 4 → (name : List ℕ) × IsNotRead s.words s.asked s.asked' s.file_faults s.file_faults' name × Adds s.told s.told' (name ++ codes ": not read\n") × (devices' ≡ [])
  -- a put of the sink failed
  pub not_put : status ≡ 5 → Rises s.sink_faults s.sink_faults'
  -- the words aren't those of a run, and no file was asked
  pub bad_words : status ≡ 7 → AreNoRunWords s.words × (s.asked' ≡ s.asked) × Adds s.told s.told' usage × (devices' ≡ [])
  -- the files aren't in the forms that are built
  pub bad_form : status ≡ 8 → IsBadForm s.words s.contents s.asked s.asked' × Adds s.told s.told' (codes "not built\n") × (devices' ≡ [])
  -- there is no other status
  pub no_other : IsAmong status (0 ∷ 1 ∷ 2 ∷ 3 ∷ 4 ∷ 5 ∷ 7 ∷ 8 ∷ [])

-- the words are those of a run, and the files tell these texts
pub record IsTold (s : Seen) (input : Input) : Type 0 where
  pub words_are : AreRunWords s.words input.names
  pub class_told : s.contents input.names.class ≡ Some (Some input.class_text)
  pub script_told : s.contents input.names.script ≡ Some (Some input.script_text)

abbrev pub AreShort : Input → Type 0
AreShort input = (length input.class_text ≤ max_file_len) × (length input.script_text ≤ max_file_len)

-- the status that words and texts call for, but for want of memory (3), a failed read (4) and a failed put of the sink (5)
pub record Comes (s : Seen) (status : ℕ) : Type 0 where
  pub words : AreNoRunWords s.words → IsAmong status (7 ∷ 3 ∷ 5 ∷ [])
  pub too_long : (input : Input) → IsTold s input → (max_file_len < length input.class_text) ⊎ (max_file_len < length input.script_text) → IsAmong status (2 ∷ 3 ∷ 4 ∷ 5 ∷ [])
  pub misspelt : (input : Input) → IsTold s input → AreShort input → (r : Refusal ClassWhy) → IsMisspelt input.class_text r → IsAmong status (2 ∷ 3 ∷ 4 ∷ 5 ∷ [])
  pub unlinked : (input : Input) → IsTold s input → AreShort input → (trees : List ClassTree) → Declares input.class_text trees → (i : ℕ) (why : LinkWhy) → i < length trees → Has trees i why → IsAmong status (2 ∷ 3 ∷ 4 ∷ 5 ∷ [])
  pub form : (input : Input) → IsTold s input → AreShort input → (trees : List ClassTree) → Declares input.class_text trees → CanLink trees → NotInForm trees input.script_text → IsAmong status (8 ∷ 3 ∷ 4 ∷ 5 ∷ [])
  pub right : (input : Input) → IsTold s input → AreShort input → (class : TextClass) (lines : List Line) (acts : List Act) → IsUnderstood input.class_text input.script_text class lines acts → IsAmong status (0 ∷ 1 ∷ 3 ∷ 4 ∷ 5 ∷ [])
