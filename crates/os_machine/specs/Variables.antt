-- Variables as the entries of a map.
use Rattle.std.specs.Prelude.{ℕ, List, [], ◌∷◌, map, Option, Some, None, refl}
use Rattle.std.specs.Coded.{Coded, code_by, coded×, coded_list, coded_ℕ}
use Rattle.os_kinds.specs.declared.val.Val.{Val}
use Rattle.os_kinds.specs.declared.val.Val.TheVariants.{Data, Ref}
use Rattle.os_kinds.specs.contracts.val.Val as val
use Rattle.os_meaning.specs.Syntax.{Name}
use Rattle.os_meaning.specs.Frames.{Var, Vars}

abbrev pub var_code : Coded Var
var_code = code_by (Name × Val) (coded× (coded_list coded_ℕ) val.the_row.coded) (λ x. (x.name, x.value)) (λ p. record { name = p.0; value = p.1 }) (λ _. refl)

abbrev pub vars_code : Coded Vars
vars_code = coded_list var_code

abbrev pub var_of : Name × Val → Var
var_of p = record { name = p.0; value = p.1 }

abbrev pub vars_of : List (Name × Val) → Vars
vars_of entries = map var_of entries

-- what is lost of a variable
abbrev pub before_object : Val → Option (ℕ × Vars)
before_object (Data v) = None
before_object (Ref number class) = Some (number, [])

abbrev pub behind_var : Var → Option (ℕ × Vars) → Option (ℕ × Vars)
behind_var x None = before_object x.value
behind_var x (Some p) = Some (p.0, x ∷ p.1)

-- the last variable with an object: its number, and the variables before it
abbrev pub last_object : Vars → Option (ℕ × Vars)
last_object [] = None
last_object (x ∷ vars) = behind_var x (last_object vars)
