-- The operators on numbers: both operands are read, the left one first, and then reckoned with.
use Rattle.std.specs.Prelude.{ℤ, neg_ℤ, Result, Ok}
use Rattle.obj_kinds.specs.declared.value.Value.{Value}
use Rattle.obj_kinds.specs.declared.error_name.ErrorName.{ErrorName}
use Rattle.os_value.specs.Answers.{and_then, stored}
use Rattle.os_value.specs.Readings.{number_in, numbers_in}
use Rattle.os_value.specs.Numbers.{sum, difference, product, quotient, modulo}

abbrev pub reckoned : (ℤ → ℤ → Result ℤ ErrorName) → Value → Value → Result Value ErrorName
reckoned with a b = and_then (numbers_in a b) (λ p. stored (with p.0 p.1))

abbrev pub sum_of : Value → Value → Result Value ErrorName
sum_of = reckoned sum

abbrev pub difference_of : Value → Value → Result Value ErrorName
difference_of = reckoned difference

abbrev pub product_of : Value → Value → Result Value ErrorName
product_of = reckoned product

abbrev pub quotient_of : Value → Value → Result Value ErrorName
quotient_of = reckoned quotient

abbrev pub modulo_of : Value → Value → Result Value ErrorName
modulo_of = reckoned modulo

abbrev pub plus : Value → Result Value ErrorName
plus a = stored (number_in a)

abbrev pub minus : Value → Result Value ErrorName
minus a = and_then (number_in a) (λ z. stored (Ok (neg_ℤ z)))
