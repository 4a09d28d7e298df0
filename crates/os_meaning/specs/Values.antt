-- The values of scripts: what operators and functions make of them. An object counts as its text.
use Rattle.std.specs.Prelude.{ℕ, ℤ, pos, not, Bool, true, false, nat_le, cond, ◌&&◌, List, [], ◌∷◌, ◌++◌, map, length, Option, Some, None, Result, Ok, Err}
use Rattle.std.specs.Fmt.{decimal}
use Rattle.obj_kinds.specs.declared.name.ClassName.{ClassName}
use Rattle.obj_kinds.specs.declared.value.Value.{Value}
use Rattle.obj_kinds.specs.declared.value.Value.TheVariants.{Str}
use Rattle.obj_kinds.specs.declared.error_name.ErrorName.{ErrorName}
use Rattle.obj_kinds.specs.declared.error_name.ErrorName.TheVariants as error
use Rattle.obj_kinds.specs.declared.sub.Sub.{Sub}
use Rattle.obj_kinds.specs.declared.sub.Sub.TheVariants.{Num, Str as TextSub}
use Rattle.obj_kinds.specs.Subscript.{sub_of}
use Rattle.obj_kinds.specs.Values.{as_value}
use Rattle.os_kinds.specs.declared.val.Val.{Val}
use Rattle.os_kinds.specs.declared.val.Val.TheVariants.{Data, Ref}
use Rattle.os_kinds.specs.declared.expression.Sign.{Sign}
use Rattle.os_kinds.specs.declared.expression.Sign.TheVariants as sign
use Rattle.os_kinds.specs.declared.expression.Operator.{Operator}
use Rattle.os_kinds.specs.declared.expression.Operator.TheVariants as op
use Rattle.os_kinds.specs.declared.expression.Function.{Function}
use Rattle.os_kinds.specs.declared.expression.Function.TheVariants as function
use Rattle.os_value.specs.Answers.{and_then}
use Rattle.os_value.specs.Readings.{text_in, number_in, truth_in}
use Rattle.os_value.specs.Arithmetic.{sum_of, difference_of, product_of, quotient_of, modulo_of, plus, minus}
use Rattle.os_value.specs.Comparisons.{told, equal, less, greater, at_most, at_least, contains, follows, conjunction, disjunction, negation}
use Rattle.os_value.specs.Texts.{joined_of, length_of, extracted, found_of, ascii_of, char_of}
use Rattle.os_value.specs.Pieces.{pieced}
use Rattle.os_value.specs.Lists.{built, item_of, count_of}

-- something, or the error of a script
abbrev pub Checked : Type 0 → Type 0
Checked A = Result A ErrorName

abbrev pub text_value : List ℕ → Val
text_value t = Data (Str t)

abbrev pub number_value : ℤ → Val
number_value z = Data (as_value z)

abbrev pub bit : Bool → Val
bit true = number_value (pos 1)
bit false = number_value (pos 0)

-- an object's text: its number, `@`, and its class
abbrev pub object_text : ℕ → ClassName → List ℕ
object_text number class = decimal number ++ 64 ∷ class.0

-- a value as operators, functions and globals take it
abbrev pub plain : Val → Value
plain (Data v) = v
plain (Ref number class) = Str (object_text number class)

abbrev pub text_of : Val → Checked (List ℕ)
text_of v = text_in (plain v)

abbrev pub number_of : Val → Checked ℤ
number_of v = number_in (plain v)

-- whether a value holds
abbrev pub truth : Val → Checked Bool
truth v = truth_in (plain v)

abbrev pub opposite : Checked Bool → Checked Bool
opposite r = and_then r (λ holds. Ok (not holds))

abbrev pub operate : Operator → Value → Value → Checked Value
operate op.Add a b = sum_of a b
operate op.Subtract a b = difference_of a b
operate op.Multiply a b = product_of a b
operate op.Quotient a b = quotient_of a b
operate op.Modulo a b = modulo_of a b
operate op.Join a b = joined_of a b
operate op.Equal a b = told (equal a b)
operate op.Less a b = told (less a b)
operate op.Greater a b = told (greater a b)
operate op.AtMost a b = told (at_most a b)
operate op.AtLeast a b = told (at_least a b)
operate op.Contains a b = told (contains a b)
operate op.Follows a b = told (follows a b)
operate op.And a b = told (conjunction a b)
operate op.Or a b = told (disjunction a b)
operate op.NotEqual a b = told (opposite (equal a b))
operate op.NotLess a b = told (opposite (less a b))
operate op.NotGreater a b = told (opposite (greater a b))
operate op.NotContains a b = told (opposite (contains a b))
operate op.NotFollows a b = told (opposite (follows a b))
operate op.AndThen a b = told (conjunction a b)
operate op.OrElse a b = told (disjunction a b)

unfoldable pub joins : Operator → Val → Val → Checked Value
joins o x y = operate o (plain x) (plain y)

abbrev pub sign_by : Sign → Value → Checked Value
sign_by sign.Plus a = plus a
sign_by sign.Minus a = minus a
sign_by sign.Not a = told (negation a)

unfoldable pub signs : Sign → Val → Checked Value
signs s x = sign_by s (plain x)

-- A function of its arguments. The reader gives each as many as it may have; with another number it is refused.
abbrev pub apply : Function → List Value → Checked Value
apply function.Length (t ∷ []) = length_of t None
apply function.Length (t ∷ d ∷ []) = length_of t (Some d)
apply function.Extract (t ∷ []) = extracted t None None
apply function.Extract (t ∷ i ∷ []) = extracted t (Some i) None
apply function.Extract (t ∷ i ∷ j ∷ []) = extracted t (Some i) (Some j)
apply function.Piece (t ∷ d ∷ []) = pieced t d None None
apply function.Piece (t ∷ d ∷ i ∷ []) = pieced t d (Some i) None
apply function.Piece (t ∷ d ∷ i ∷ j ∷ []) = pieced t d (Some i) (Some j)
apply function.Find (t ∷ u ∷ []) = found_of t u None
apply function.Find (t ∷ u ∷ i ∷ []) = found_of t u (Some i)
apply function.Ascii (t ∷ []) = ascii_of t None
apply function.Ascii (t ∷ i ∷ []) = ascii_of t (Some i)
apply function.Char codes = char_of codes
apply function.ListBuild items = built items
apply function.List (l ∷ []) = item_of l None
apply function.List (l ∷ i ∷ []) = item_of l (Some i)
apply function.ListLength (l ∷ []) = count_of l
apply _ _ = Err error.Function

unfoldable pub applies : Function → List Val → Checked Value
applies f vs = apply f (map plain vs)

-- a text that can be a subscript: 1 to 255 bytes
abbrev pub sub_by : List ℕ → Checked Sub
sub_by t = cond (nat_le 1 (length t) && nat_le (length t) 255) (Ok (sub_of t)) (Err error.Subscript)

-- A value as the subscript behind so many others; a ninth is refused.
unfoldable pub subscript_of : ℕ → Val → Checked Sub
subscript_of others v = and_then (text_of v) (λ t. cond (nat_le 8 others) (Err error.Subscript) (sub_by t))

abbrev pub after_by : List ℕ → Checked (Option Sub)
after_by [] = Ok None
after_by (b ∷ t) = and_then (sub_by (b ∷ t)) (λ s. Ok (Some s))

-- the subscript behind which the next is sought: the empty text is before the first
unfoldable pub after_of : ℕ → Val → Checked (Option Sub)
after_of others v = and_then (text_of v) (λ t. cond (nat_le 8 others) (Err error.Subscript) (after_by t))

-- a subscript as a value
abbrev pub sub_value : Sub → Val
sub_value (Num z) = number_value z
sub_value (TextSub t) = text_value t
