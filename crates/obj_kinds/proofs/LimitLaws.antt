-- What is read from a text is within the limits.
use Rattle.std.proofs.Common.{◌≡◌, ◌≢◌, ℕ, suc, ◌<◌, ◌≤◌, ◌^◌, ℤ, pos, negsuc, Bool, true, false, ◌&&◌, nat_le, nat_lt, List, [], ◌∷◌, length, Option, None, Some, is_none, unsigned_abs, refl, sym, ap, subst, ◌∙◌, arith}
use borrow.Author.Tests.{ltb-true, lt-ltb}
use lib.Signed.{mag}
use Rattle.std.specs.Fmt.{signed_decimal}
use Rattle.std.specs.Str.{IsAscii}
use Rattle.std.specs.Char.{is_ascii}
use Rattle.std.specs.List.{list_all}
use Rattle.std.proofs.lemmas.Fmt.{IsAscii-signed}
use Rattle.obj_kinds.specs.declared.sub.Sub.{Sub}
use Rattle.obj_kinds.specs.declared.sub.Sub.TheVariants.{Num, Str}
use Rattle.obj_kinds.specs.Subscript.{IsWhole, whole_of, sub_by, sub_of}
use Rattle.obj_kinds.specs.Ids.{IsPart, IsId}
use Rattle.obj_kinds.specs.Limits.{is_sub_text, is_legal_sub, is_part, is_legal_id}
use Rattle.std.proofs.lemmas.Bool.Decides.{nat_tests}
use Rattle.obj_kinds.proofs.Numbers.{whole_of-printed, printed-whole_of}

all_ascii : (text : List ℕ) → IsAscii text → list_all is_ascii text ≡ true
all_ascii [] h = refl
all_ascii (byte ∷ text) h = ap (λ b. b && list_all is_ascii text) (lt-ltb byte 128 (h 0)) ∙ all_ascii text (λ i. h (suc i))

small : (z : ℤ) → IsWhole z → mag z < 2 ^ 63
small (pos n) h = omega arith
small (negsuc n) h = omega arith

tested : (m n : ℕ) → m ≤ n → nat_le m n ≡ true
tested m n h = grind (arith, nat_tests)

str_legal : (text : List ℕ) → 1 ≤ length text → length text ≤ 255 → whole_of text ≡ None → is_legal_sub (Str text) ≡ list_all is_ascii text
unfolding is_legal_sub is_sub_text
str_legal text some few e =
    ap (λ b. (b && nat_le (length text) 255 && list_all is_ascii text) && is_none (whole_of text)) (tested 1 (length text) some)
    ∙ ap (λ b. (b && list_all is_ascii text) && is_none (whole_of text)) (tested (length text) 255 few)
    ∙ ap (λ o. list_all is_ascii text && is_none o) e
    ∙ plain (list_all is_ascii text)
  where
    plain : (b : Bool) → b && true ≡ b
    plain true = refl
    plain false = refl

num_legal : (text : List ℕ) (z : ℤ) → whole_of text ≡ Some z → is_legal_sub (Num z) ≡ list_all is_ascii text
unfolding is_legal_sub
num_legal text z e =
    let is = printed-whole_of text z e in
    lt-ltb (unsigned_abs z) (10 ^ 18) is.0 ∙ sym (subst (λ t. list_all is_ascii t ≡ true) (sym is.1) (all_ascii (signed_decimal z) (IsAscii-signed z (small z is.0))))

-- a text of 1 to 255 bytes is read as a subscript within the limits exactly where its bytes are of ASCII
pub legal_sub_of : (text : List ℕ) → 1 ≤ length text → length text ≤ 255 → is_legal_sub (sub_of text) ≡ list_all is_ascii text
legal_sub_of text some few = by (whole_of text) refl
  where
    by : (o : Option ℤ) → whole_of text ≡ o → is_legal_sub (sub_by text o) ≡ list_all is_ascii text
    by (Some z) e = num_legal text z e
    by None e = str_legal text some few e

pub legal_sub_is : (s : Sub) (text : List ℕ) → s ≡ sub_of text → text ≢ [] → ¬ (255 < length text) → is_legal_sub s ≡ list_all is_ascii text
legal_sub_is s [] is some few = absurd (some refl)
legal_sub_is s (byte ∷ text) is some few = ap is_legal_sub is ∙ legal_sub_of (byte ∷ text) (omega arith) (omega arith)

-- ---- and back: a subscript within the limits is read from its own text
pub text_of_sub : Sub → List ℕ
text_of_sub (Num z) = signed_decimal z
text_of_sub (Str text) = text

first : (a b : Bool) → a && b ≡ true → a ≡ true
first true b h = refl
first false b h = cc

second : (a b : Bool) → a && b ≡ true → b ≡ true
second true b h = h
second false b h = cc

no_whole : (o : Option ℤ) → is_none o ≡ true → o ≡ None
no_whole None h = refl
no_whole (Some z) h = cc

pub sub_of_text : (s : Sub) → is_legal_sub s ≡ true → sub_of (text_of_sub s) ≡ s
unfolding is_legal_sub text_of_sub
sub_of_text (Num z) h = ap (sub_by (signed_decimal z)) (whole_of-printed (signed_decimal z) z (ltb-true _ _ h) refl)
sub_of_text (Str text) h = ap (sub_by text) (no_whole (whole_of text) (second (is_sub_text text) (is_none (whole_of text)) h))

-- ---- an id is within the limits
part_legal : (n : ℕ) → IsPart n → is_part n ≡ true
part_legal n h = ap (λ b. b && nat_lt n (10 ^ 18)) (tested 1 n h.0) ∙ lt-ltb n (10 ^ 18) h.1

pub legal_id : (parts : List ℕ) → IsId parts → is_legal_id parts ≡ true
unfolding is_legal_id
legal_id [] h = absurd h
legal_id (a ∷ []) h = ap (λ b. b && true) (part_legal a h)
legal_id (a ∷ b ∷ []) h = ap (λ t. t && (is_part b && true)) (part_legal a h.0) ∙ ap (λ t. t && true) (part_legal b h.1)
legal_id (a ∷ b ∷ c ∷ []) h = ap (λ t. t && (is_part b && (is_part c && true))) (part_legal a h.0) ∙ ap (λ t. t && (is_part c && true)) (part_legal b h.1) ∙ ap (λ t. t && true) (part_legal c h.2)
legal_id (a ∷ b ∷ c ∷ d ∷ more) h = absurd h
