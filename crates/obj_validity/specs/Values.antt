-- The first rule that a value breaks.
use Rattle.std.specs.Prelude.{ℕ, ℤ, int_lt, nat_lt, Bool, true, false, cond, ◌&&◌, ◌||◌, List, [], ◌∷◌, length, Option, None, Some}
use Rattle.obj_kinds.specs.declared.cause.Why.{Why}
use Rattle.obj_kinds.specs.declared.cause.Why.TheVariants as why
use Rattle.obj_kinds.specs.Texts.{same_text}
use Rattle.obj_kinds.specs.Subscript.{whole_of}
use Rattle.schema_kinds.specs.declared.kind.Item.{Item}
use Rattle.schema_kinds.specs.declared.kind.Item.TheVariants as of
use Rattle.schema_kinds.specs.declared.prop.Prop.{Prop}

-- the earlier rule counts
abbrev pub or_later : Option Why → Option Why → Option Why
or_later None later = later
or_later (Some first) later = Some first

abbrev pub broken_if : Bool → Why → Option Why
broken_if broken w = cond broken (Some w) None

-- more than the most, where there is one
abbrev pub is_longer : Option ℕ → ℕ → Bool
is_longer None n = false
is_longer (Some most) n = nat_lt most n

abbrev pub is_less : Option ℤ → ℤ → Bool
is_less None z = false
is_less (Some least) z = int_lt z least

abbrev pub is_more : Option ℤ → ℤ → Bool
is_more None z = false
is_more (Some most) z = int_lt most z

-- a text isn't longer than its limit; as a part of a key it has 254 bytes at most
abbrev pub text_fault : Prop → Bool → List ℕ → Option Why
text_fault p indexed text = or_later (broken_if (is_longer p.max_len (length text)) why.TooLong) (broken_if (nat_lt 254 (length text) && indexed) why.KeyTooLong)

abbrev pub number_fault : Prop → Option ℤ → Option Why
number_fault p None = Some why.NotWhole
number_fault p (Some z) = or_later (broken_if (is_less p.min_val z) why.TooSmall) (broken_if (is_more p.max_val z) why.TooLarge)

-- a whole value that isn't empty is a canonical whole number, within its limits
abbrev pub whole_fault : Prop → List ℕ → Option Why
whole_fault p [] = None
whole_fault p (byte ∷ text) = number_fault p (whole_of (byte ∷ text))

abbrev pub is_truth : List ℕ → Bool
is_truth text = same_text text (48 ∷ []) || same_text text (49 ∷ [])

-- a truth value that isn't empty is 0 or 1
abbrev pub truth_fault : List ℕ → Option Why
truth_fault [] = None
truth_fault (byte ∷ text) = cond (is_truth (byte ∷ text)) None (Some why.NotTruth)

-- of a value of the kind
abbrev pub value_fault : Prop → Bool → Item → List ℕ → Option Why
value_fault p indexed of.Text text = text_fault p indexed text
value_fault p indexed of.Whole text = whole_fault p text
value_fault p indexed of.Truth text = truth_fault text
value_fault p indexed (of.Ref c) text = None
value_fault p indexed (of.Serial c) text = None
