-- What a counter tells.
use Rattle.std.specs.Prelude.{ℕ, ℤ, pos, Option, None, Some}
use Rattle.obj_kinds.specs.declared.value.Value.{Value}
use Rattle.obj_kinds.specs.declared.value.Value.TheOpen.{Value-F}
use Rattle.obj_kinds.specs.declared.value.Value.TheViews.{out-Value}
use Rattle.obj_kinds.specs.Subscript.{whole_of}

abbrev pub from_zero : Option ℤ → Option ℕ
from_zero (Some (pos n)) = Some n
from_zero _ = None

-- a canonical whole number from 0 on
abbrev pub counted : Value-F Value → Option ℕ
counted (Value-F.Str text) = from_zero (whole_of text)
counted (Value-F.List vs) = None

-- the number that a counter tells; an absent one tells 0
abbrev pub counter_number : Option Value → Option ℕ
counter_number None = Some 0
counter_number (Some v) = counted (out-Value v)
