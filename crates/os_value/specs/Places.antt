-- Places of bytes and items, counted from 1.
use Rattle.std.specs.Prelude.{ℕ, zero, suc, ℤ, pos, negsuc, List, take, drop, Option, Some, None, Result, Ok}
use Rattle.obj_kinds.specs.declared.value.Value.{Value}
use Rattle.obj_kinds.specs.declared.error_name.ErrorName.{ErrorName}
use Rattle.os_value.specs.Readings.{number_in}

-- the number that an argument is, or another one where it is missing
abbrev pub place_or : Option Value → ℤ → Result ℤ ErrorName
place_or None other = Ok other
place_or (Some v) other = number_in v

-- how many places stand before this one
abbrev pub before : ℤ → ℕ
before (pos zero) = 0
before (pos (suc n)) = n
before (negsuc n) = 0

-- how many places stand up to this one
abbrev pub up_to : ℤ → ℕ
up_to (pos n) = n
up_to (negsuc n) = 0

-- what stands at places from the first to the last
abbrev pub part : {A : Type 0} → ℤ → ℤ → List A → List A
part first last xs = drop (before first) (take (up_to last) xs)
