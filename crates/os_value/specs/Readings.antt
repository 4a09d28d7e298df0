-- What a value is as a text, as a number, and as a truth.
use Rattle.std.specs.Prelude.{ℕ, zero, suc, ℤ, pos, negsuc, Bool, true, false, not, cond, List, Result, Ok, Err}
use Rattle.obj_kinds.specs.declared.value.Value.{Value}
use Rattle.obj_kinds.specs.declared.value.Value.TheOpen.{Value-F}
use Rattle.obj_kinds.specs.declared.value.Value.TheViews.{out-Value}
use Rattle.obj_kinds.specs.declared.error_name.ErrorName.{ErrorName}
use Rattle.obj_kinds.specs.declared.error_name.ErrorName.TheVariants.{List as ListError, MaxNumber}
use Rattle.obj_kinds.specs.Subscript.{is_whole}
use Rattle.obj_kinds.specs.LeadingNumber.{leading_number}
use Rattle.os_value.specs.Answers.{and_then}

abbrev pub text_by : Value-F Value → Result (List ℕ) ErrorName
text_by (Value-F.Str text) = Ok text
text_by (Value-F.List items) = Err ListError

-- a list is no text
abbrev pub text_in : Value → Result (List ℕ) ErrorName
text_in v = text_by (out-Value v)

-- a number of more than 18 digits is refused
abbrev pub whole : ℤ → Result ℤ ErrorName
whole z = cond (is_whole z) (Ok z) (Err MaxNumber)

-- a text is read as its leading number
abbrev pub number_in : Value → Result ℤ ErrorName
number_in v = and_then (text_in v) (λ text. whole (leading_number text))

-- the left operand comes first
abbrev pub numbers_in : Value → Value → Result (ℤ × ℤ) ErrorName
numbers_in a b = and_then (number_in a) (λ x. and_then (number_in b) (λ y. Ok (x, y)))

abbrev pub is_zero : ℤ → Bool
is_zero (pos zero) = true
is_zero (pos (suc n)) = false
is_zero (negsuc n) = false

-- any number but 0 is true
abbrev pub truth_in : Value → Result Bool ErrorName
truth_in v = and_then (number_in v) (λ z. Ok (not (is_zero z)))
