-- What one line adds to the reading of a script.
use Rattle.std.specs.Prelude.{◌≡◌, ℕ, suc, ◌⊎◌, List, [], ◌∷◌, ◌++◌, Option, Some, None}
use Rattle.std.specs.BTreeMap.{BTreeMap, get, Updates}
use Rattle.obj_kinds.specs.SubOrder.{text_cmp}
use Rattle.first_path.specs.Lines.{Line, New, Fill, Save}
use Rattle.first_path.specs.LineReading.{line_in}
use Rattle.first_path.specs.Meaning.{History, act_with}
use Rattle.first_path.specs.declared.act.Act.{Act}
use Rattle.first_path.specs.declared.script.Reading.{Reading}

-- the object that a variable names
abbrev pub names_of : Reading → List ℕ → Option ℕ
names_of r var = get text_cmp r.names var

-- a line that makes an object sets its variable, and any other leaves the variables
abbrev pub Learns : Line → Reading → Reading → Type 0
Learns (New var) old new = Updates text_cmp old.names new.names var (Some old.made) × (new.made ≡ suc old.made)
Learns (Fill var prop text) old new = (new.names ≡ old.names) × (new.made ≡ old.made)
Learns (Save var) old new = (new.names ≡ old.names) × (new.made ≡ old.made)

-- the line was understood, and its act stands behind the others
pub record IsUnderstood (props : List (List ℕ)) (line : Line) (old new : Reading) : Type 0 where
  pub act : Act
  pub means : act_with props (names_of old) line ≡ Some act
  pub added : new.acts ≡ old.acts ++ act ∷ []
  pub learnt : Learns line old new

-- the line's variable names no object, or its property isn't one of the class
abbrev pub IsNoAct : List (List ℕ) → Line → Reading → Type 0
IsNoAct props line r = act_with props (names_of r) line ≡ None
