-- Arithmetic on whole numbers of 18 digits at most.
use Rattle.std.specs.Prelude.{ℕ, suc, ◌/◌, ℤ, pos, negsuc, ◌+ℤ◌, ◌-ℤ◌, ◌*ℤ◌, neg_ℤ, int_div, cond, Result, Ok, Err}
use Rattle.obj_kinds.specs.declared.error_name.ErrorName.{ErrorName}
use Rattle.obj_kinds.specs.declared.error_name.ErrorName.TheVariants.{Divide}
use Rattle.os_value.specs.Readings.{whole, is_zero}

abbrev pub sum : ℤ → ℤ → Result ℤ ErrorName
sum a b = whole (a +ℤ b)

abbrev pub difference : ℤ → ℤ → Result ℤ ErrorName
difference a b = whole (a -ℤ b)

abbrev pub product : ℤ → ℤ → Result ℤ ErrorName
product a b = whole (a *ℤ b)

-- cut towards zero
abbrev pub quotient : ℤ → ℤ → Result ℤ ErrorName
quotient a b = cond (is_zero b) (Err Divide) (Ok (int_div a b))

-- the greatest whole number that is at most a over n
abbrev pub floor_over : ℤ → ℕ → ℤ
floor_over (pos a) n = pos (a / n)
floor_over (negsuc a) n = negsuc (a / n)

-- the greatest whole number that is at most a over b
abbrev pub floor : ℤ → ℤ → ℤ
floor a (pos n) = floor_over a n
floor a (negsuc n) = floor_over (neg_ℤ a) (suc n)

-- what is left of a without b times the floor of a over b
unfoldable pub rest : ℤ → ℤ → ℤ
rest a b = a -ℤ floor a b *ℤ b

abbrev pub modulo : ℤ → ℤ → Result ℤ ErrorName
modulo a b = cond (is_zero b) (Err Divide) (Ok (rest a b))
