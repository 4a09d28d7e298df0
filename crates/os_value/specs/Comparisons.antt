-- The operators that compare, and those of logic. Each answers 1 or 0.
use Rattle.std.specs.Prelude.{ℕ, ℤ, pos, int_lt, int_le, Bool, true, false, not, ◌&&◌, ◌||◌, List, Option, is_some, Result, Ok, Err}
use Rattle.std.specs.Ordering.{nat_cmp, is_gt}
use Rattle.std.specs.Cmp.Lexicographic.{slice_cmp}
use Rattle.memchr.specs.Find.{matches, first_of}
use Rattle.obj_kinds.specs.declared.value.Value.{Value}
use Rattle.obj_kinds.specs.declared.value.Value.TheOpen.{Value-F}
use Rattle.obj_kinds.specs.declared.value.Value.TheViews.{out-Value}
use Rattle.obj_kinds.specs.declared.error_name.ErrorName.{ErrorName}
use Rattle.obj_kinds.specs.declared.error_name.ErrorName.TheVariants.{List as ListError}
use Rattle.obj_kinds.specs.Values.{same_value}
use Rattle.os_value.specs.Answers.{and_then, stored}
use Rattle.os_value.specs.Readings.{text_in, numbers_in, truth_in}

abbrev pub as_number : Bool → ℤ
as_number true = pos 1
as_number false = pos 0

-- 1 where it holds, else 0
abbrev pub told : Result Bool ErrorName → Result Value ErrorName
told answer = stored (and_then answer (λ holds. Ok (as_number holds)))

abbrev pub list_by : Value-F Value → Bool
list_by (Value-F.Str text) = false
list_by (Value-F.List items) = true

abbrev pub is_list : Value → Bool
is_list v = list_by (out-Value v)

abbrev pub of_one_kind : Bool → Bool → Bool → Result Bool ErrorName
of_one_kind true true same = Ok same
of_one_kind false false same = Ok same
of_one_kind true false same = Err ListError
of_one_kind false true same = Err ListError

-- texts by their bytes, lists item by item; a list and a text are not compared
abbrev pub equal : Value → Value → Result Bool ErrorName
equal a b = of_one_kind (is_list a) (is_list b) (same_value a b)

abbrev pub compared : (ℤ → ℤ → Bool) → Value → Value → Result Bool ErrorName
compared test a b = and_then (numbers_in a b) (λ p. Ok (test p.0 p.1))

abbrev pub less : Value → Value → Result Bool ErrorName
less = compared int_lt

abbrev pub greater : Value → Value → Result Bool ErrorName
greater = compared (λ x y. int_lt y x)

abbrev pub at_most : Value → Value → Result Bool ErrorName
at_most = compared int_le

abbrev pub at_least : Value → Value → Result Bool ErrorName
at_least = compared (λ x y. int_le y x)

-- the left operand comes first
abbrev pub texts_in : Value → Value → Result (List ℕ × List ℕ) ErrorName
texts_in a b = and_then (text_in a) (λ s. and_then (text_in b) (λ t. Ok (s, t)))

-- the least place at which a text occurs in another, counted from 0
abbrev pub place_of : List ℕ → List ℕ → Option ℕ
place_of text sought = first_of (matches text sought 0)

abbrev pub contains : Value → Value → Result Bool ErrorName
contains a b = and_then (texts_in a b) (λ p. Ok (is_some (place_of p.0 p.1)))

-- whether a text is the greater one by its bytes
abbrev pub is_behind : List ℕ → List ℕ → Bool
is_behind s t = is_gt (slice_cmp nat_cmp s t)

abbrev pub follows : Value → Value → Result Bool ErrorName
follows a b = and_then (texts_in a b) (λ p. Ok (is_behind p.0 p.1))

abbrev pub truths_in : Value → Value → Result (Bool × Bool) ErrorName
truths_in a b = and_then (truth_in a) (λ x. and_then (truth_in b) (λ y. Ok (x, y)))

abbrev pub conjunction : Value → Value → Result Bool ErrorName
conjunction a b = and_then (truths_in a b) (λ p. Ok (p.0 && p.1))

abbrev pub disjunction : Value → Value → Result Bool ErrorName
disjunction a b = and_then (truths_in a b) (λ p. Ok (p.0 || p.1))

abbrev pub negation : Value → Result Bool ErrorName
negation a = and_then (truth_in a) (λ x. Ok (not x))
