-- What holds between two lines in the reading of a script.
use Rattle.std.specs.Prelude.{◌≡◌, ℕ, ◌+◌, ◌≤◌, List, [], ◌++◌}
use Rattle.std.specs.Option.{option_map}
use Rattle.first_path.specs.Meaning.{History, made, named}
use Rattle.first_path.specs.Reading.{names_of}
use Rattle.first_path.specs.Script.{script_in}
use Rattle.first_path.specs.declared.script.Reading.{Reading}

-- the lines so far are known, and with the rest they are those of the whole
pub record IsBetween (class : List ℕ) (props : List (List ℕ)) (text rest : List ℕ) (room : ℕ) (r : Reading) : Type 0 where
  pub before : History
  pub names : (var : List ℕ) → names_of r var ≡ named before var
  pub made_is : r.made ≡ made before
  pub few : r.made + room ≤ 10000
  pub read : option_map (λ more. r.acts ++ more) (script_in room class props before rest) ≡ script_in 10000 class props [] text
