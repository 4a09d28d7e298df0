-- An id is read exactly where its text is.
use Rattle.std.proofs.Common.{◌≡◌, ◌≢◌, ℕ, zero, suc, ℤ, pos, negsuc, ◌<◌, ◌==◌, Bool, true, false, cond, List, [], ◌∷◌, ◌++◌, length, take, drop, get_or, Option, Some, None, unsigned_abs, w64, FitsSigned, to_z, of_z, codes, refl, sym, ap, subst, ◌∙◌, arith, append-nil}
use Rattle.std.specs.Option.{option_and_then}
use Rattle.std.specs.Fmt.{decimal}
use Rattle.std.proofs.lemmas.List.{take-append-drop}
use Rattle.std.proofs.lemmas.Fmt.{decimal_is_IsNumeral}
use Rattle.std.proofs.lemmas.Str.Parse.{numerals_by_value, tells_digits, not_in_digits}
use Rattle.std.proofs.lemmas.Bool.Decides.{Decides-eqb}
use Rattle.std.proofs.lemmas.Int.{ints, to_z-of_z}
use lib.Signed.{lt_z}
use Rattle.obj_kinds.specs.Ids.{IsPart, IsId, id_text}
use Rattle.obj_kinds.specs.IdReading.{before_bar, positive, with_rest, part_in, after_bars, ended, ended_or, second, third, id_in}
use Rattle.obj_kinds.specs.Subscript.{IsWhole, whole_of}
use Rattle.obj_kinds.proofs.Numbers.{whole_of-printed, printed-whole_of}

same_byte : (a b : ℕ) → (a == b) ≡ true → a ≡ b
same_byte a b h = (Decides-eqb a b).0 h

other_byte : (a b : ℕ) → a ≢ b → (a == b) ≡ false
other_byte a b apart = by (a == b) refl
  where
    by : (t : Bool) → (a == b) ≡ t → t ≡ false
    by true e = absurd (apart (same_byte a b e))
    by false e = refl

-- what follows a number: nothing, or a bar
abbrev pub BeginsWithBar : List ℕ → Type 0
BeginsWithBar [] = Unit {0}
BeginsWithBar (byte ∷ rest) = byte ≡ 124

NoBar : List ℕ → Type 0
NoBar digits = (i : ℕ) → i < length digits → get_or digits i 0 ≢ 124

before_bar-digits : (digits rest : List ℕ) → ((i : ℕ) → i < length digits → get_or digits i 0 ≢ 124) → BeginsWithBar rest → before_bar (digits ++ rest) ≡ length digits
before_bar-digits [] [] none bar = refl
before_bar-digits [] (byte ∷ rest) none bar = rw ((Decides-eqb byte 124).1 bar) refl
before_bar-digits (digit ∷ digits) rest none bar =
    let apart : digit ≢ 124 = none 0 (omega arith) in
    rw (other_byte digit 124 apart) (ap (λ n. suc n) (before_bar-digits digits rest (λ i less. none (suc i) (omega arith)) bar))

take-front : (word rest : List ℕ) → take (length word) (word ++ rest) ≡ word
take-front [] rest = refl
take-front (first ∷ word) rest = ap (λ w. first ∷ w) (take-front word rest)

drop-front : (word rest : List ℕ) → drop (length word) (word ++ rest) ≡ rest
drop-front [] rest = refl
drop-front (first ∷ word) rest = drop-front word rest

no_bar : (n : ℕ) → IsPart n → (i : ℕ) → i < length (decimal n) → get_or (decimal n) i 0 ≢ 124
no_bar n part i less =
    let numeral = (decimal_is_IsNumeral n (let h = part.1 in omega arith)).0 in
    not_in_digits (numerals_by_value _ tells_digits) (decimal n) 124 numeral.1 (λ h. omega arith) i less

positive-part : (n : ℕ) → IsPart n → positive (Some (pos n)) ≡ Some n
positive-part zero part = absurd (let h = part.0 in omega arith)
positive-part (suc n) part = refl

pub part_in-takes : (n : ℕ) (rest : List ℕ) → IsPart n → BeginsWithBar rest → part_in (decimal n ++ rest) ≡ Some (n, rest)
unfolding part_in
part_in-takes n rest part bar =
    let whole : whole_of (decimal n) ≡ Some (pos n) = whole_of-printed (decimal n) (pos n) part.1 refl in
    let at : (k : ℕ) → k ≡ length (decimal n) → with_rest (positive (whole_of (take k (decimal n ++ rest)))) (drop k (decimal n ++ rest)) ≡ Some (n, rest) =
    λ k same. rw (same, take-front (decimal n) rest, drop-front (decimal n) rest, whole) (ap (λ o. with_rest o rest) (positive-part n part)) in
    at (before_bar (decimal n ++ rest)) (before_bar-digits (decimal n) rest (no_bar n part) bar)

-- the number and what follows it
pub part_in-is : (text : List ℕ) (p : ℕ × List ℕ) → part_in text ≡ Some p → IsPart p.0 × (text ≡ decimal p.0 ++ p.1)
unfolding part_in
part_in-is text p h = by (whole_of (take (before_bar text) text)) refl h
  where
    split : text ≡ take (before_bar text) text ++ drop (before_bar text) text
    split = sym (take-append-drop (before_bar text) text)

    by : (o : Option ℤ) → whole_of (take (before_bar text) text) ≡ o → with_rest (positive o) (drop (before_bar text) text) ≡ Some p → IsPart p.0 × (text ≡ decimal p.0 ++ p.1)
    by None e k = cc
    by (Some (negsuc n)) e k = cc
    by (Some (pos zero)) e k = cc
    by (Some (pos (suc n))) e k =
        let is = printed-whole_of (take (before_bar text) text) (pos (suc n)) e in
        let same : (suc n, drop (before_bar text) text) ≡ p = cc in
        subst (λ (q : ℕ × List ℕ). IsPart q.0 × (text ≡ decimal q.0 ++ q.1)) same
        ((omega arith, is.0), split ∙ ap (λ t. t ++ drop (before_bar text) text) is.1)

pub after_bars-is : (text rest : List ℕ) → after_bars text ≡ Some rest → text ≡ codes "||" ++ rest
after_bars-is [] rest h = cc
after_bars-is (a ∷ []) rest h = cc
after_bars-is (a ∷ b ∷ more) rest h = by (a == 124) refl (b == 124) refl h
  where
    by : (s : Bool) → (a == 124) ≡ s → (t : Bool) → (b == 124) ≡ t → cond s (cond t (Some more) None) None ≡ Some rest → a ∷ b ∷ more ≡ 124 ∷ 124 ∷ rest
    by true e true f k = let x = same_byte a 124 e in let y = same_byte b 124 f in let z : more ≡ rest = cc in λ i. x i ∷ y i ∷ z i
    by true e false f k = cc
    by false e t f k = cc

and_then-is : {A B : Type 0} (f : A → Option B) (o : Option A) (b : B) → option_and_then f o ≡ Some b → (a : A) × (o ≡ Some a) × (f a ≡ Some b)
and_then-is f None b h = cc
and_then-is f (Some a) b h = (a, refl, h)

-- an id that was read
pub record IsRead (text parts : List ℕ) : Type 0 where
  pub id : IsId parts
  pub spelt : text ≡ id_text parts

ends_here : (text parts more : List ℕ) → more ≡ parts → IsRead text more → IsRead text parts
ends_here text parts more same read = subst (IsRead text) same read

third-is : (a b : ℕ) (text parts : List ℕ) → third a b text ≡ Some parts → (c : ℕ) × IsPart c × (text ≡ codes "||" ++ decimal c) × (a ∷ b ∷ c ∷ [] ≡ parts)
third-is a b text parts h =
    let bars = and_then-is (λ (r : List ℕ). option_and_then (λ (c : ℕ × List ℕ). ended (a ∷ b ∷ c.0 ∷ []) c.1) (part_in r)) (after_bars text) parts h in
    let last = and_then-is (λ (c : ℕ × List ℕ). ended (a ∷ b ∷ c.0 ∷ []) c.1) (part_in bars.0) parts bars.2 in
    let is = part_in-is bars.0 last.0 last.1 in
    at last.0.0 last.0.1 is.0 (after_bars-is text bars.0 bars.1 ∙ ap (λ r. codes "||" ++ r) is.1) last.2
  where
    at : (c : ℕ) (rest : List ℕ) → IsPart c → text ≡ codes "||" ++ (decimal c ++ rest) → ended (a ∷ b ∷ c ∷ []) rest ≡ Some parts → (d : ℕ) × IsPart d × (text ≡ codes "||" ++ decimal d) × (a ∷ b ∷ d ∷ [] ≡ parts)
    at c [] part split e = (c, part, split ∙ ap (λ r. codes "||" ++ r) (append-nil (decimal c)), cc)
    at c (byte ∷ rest) part split e = cc

second-is : (a : ℕ) (text whole parts : List ℕ) → IsPart a → whole ≡ decimal a ++ text → second a text ≡ Some parts → IsRead whole parts
second-is a text whole parts part split h =
    let bars = and_then-is (λ (r : List ℕ). option_and_then (λ (b : ℕ × List ℕ). ended_or (a ∷ b.0 ∷ []) b.1 (third a b.0 b.1)) (part_in r)) (after_bars text) parts h in
    let next = and_then-is (λ (b : ℕ × List ℕ). ended_or (a ∷ b.0 ∷ []) b.1 (third a b.0 b.1)) (part_in bars.0) parts bars.2 in
    let is = part_in-is bars.0 next.0 next.1 in
    at next.0.0 next.0.1 is.0 (split ∙ ap (λ r. decimal a ++ r) (after_bars-is text bars.0 bars.1 ∙ ap (λ r. codes "||" ++ r) is.1)) next.2
  where
    at : (b : ℕ) (rest : List ℕ) → IsPart b → whole ≡ decimal a ++ (codes "||" ++ (decimal b ++ rest)) → ended_or (a ∷ b ∷ []) rest (third a b rest) ≡ Some parts → IsRead whole parts
    at b [] part' split' e = ends_here whole parts (a ∷ b ∷ []) (cc) record { id = (part, part'); spelt = split' ∙ ap (λ r. decimal a ++ (codes "||" ++ r)) (append-nil (decimal b)) }
    at b (byte ∷ rest) part' split' e =
        let last = third-is a b (byte ∷ rest) parts e in
        ends_here whole parts (a ∷ b ∷ last.0 ∷ []) last.3 record { id = (part, part', last.1); spelt = split' ∙ ap (λ r. decimal a ++ (codes "||" ++ (decimal b ++ r))) last.2 }

pub id_in-is : (text parts : List ℕ) → id_in text ≡ Some parts → IsRead text parts
unfolding id_in
id_in-is text parts h =
    let first = and_then-is (λ (p : ℕ × List ℕ). ended_or (p.0 ∷ []) p.1 (second p.0 p.1)) (part_in text) parts h in
    let is = part_in-is text first.0 first.1 in
    at first.0.0 first.0.1 is.0 is.1 first.2
  where
    at : (a : ℕ) (rest : List ℕ) → IsPart a → text ≡ decimal a ++ rest → ended_or (a ∷ []) rest (second a rest) ≡ Some parts → IsRead text parts
    at a [] part split e = ends_here text parts (a ∷ []) (cc) record { id = part; spelt = split ∙ append-nil (decimal a) }
    at a (byte ∷ rest) part split e = second-is a (byte ∷ rest) text parts part split e

part_last : (n : ℕ) → IsPart n → part_in (decimal n) ≡ Some (n, [])
part_last n part = ap part_in (sym (append-nil (decimal n))) ∙ part_in-takes n [] part tt

pub id_in-takes : (parts : List ℕ) → IsId parts → id_in (id_text parts) ≡ Some parts
unfolding id_in
id_in-takes [] is = absurd is
id_in-takes (a ∷ []) is = ap (option_and_then (λ (p : ℕ × List ℕ). ended_or (p.0 ∷ []) p.1 (second p.0 p.1))) (part_last a is)
id_in-takes (a ∷ b ∷ []) is =
    ap (option_and_then (λ (p : ℕ × List ℕ). ended_or (p.0 ∷ []) p.1 (second p.0 p.1))) (part_in-takes a (codes "||" ++ decimal b) is.0 refl)
    ∙ ap (option_and_then (λ (q : ℕ × List ℕ). ended_or (a ∷ q.0 ∷ []) q.1 (third a q.0 q.1))) (part_last b is.1)
id_in-takes (a ∷ b ∷ c ∷ []) is =
    ap (option_and_then (λ (p : ℕ × List ℕ). ended_or (p.0 ∷ []) p.1 (second p.0 p.1))) (part_in-takes a (codes "||" ++ (decimal b ++ (codes "||" ++ decimal c))) is.0 refl)
    ∙ ap (option_and_then (λ (q : ℕ × List ℕ). ended_or (a ∷ q.0 ∷ []) q.1 (third a q.0 q.1))) (part_in-takes b (codes "||" ++ decimal c) is.1 refl)
    ∙ ap (option_and_then (λ (r : ℕ × List ℕ). ended (a ∷ b ∷ r.0 ∷ []) r.1)) (part_last c is.2)
id_in-takes (a ∷ b ∷ c ∷ d ∷ more) is = absurd is

pub found_id : (text parts : List ℕ) → Some parts ≡ id_in text → IsId parts × (text ≡ id_text parts)
found_id text parts found = let read = id_in-is text parts (sym found) in (read.id, read.spelt)

pub no_id : (text : List ℕ) → None ≡ id_in text → (parts : List ℕ) → IsId parts → text ≢ id_text parts
no_id text none parts is same = let some = ap id_in same ∙ id_in-takes parts is in cc

-- a whole number fits its type
fits : (z : ℤ) → IsWhole z → FitsSigned w64 z
fits (pos n) h = omega (arith, ints)
fits (negsuc n) h = omega (arith, ints)

part_of : (z : ℤ) → IsWhole z → lt_z z (pos 1) ≡ false → IsPart (unsigned_abs z)
part_of (pos n) whole low = (omega (arith, ints), whole)
part_of (negsuc n) whole low = absurd (omega (arith, ints))

-- a whole number from 1, made of its bits
pub part_of_bits : (z : ℤ) (text : List ℕ) (r : ℕ) → Some z ≡ whole_of text → r ≡ unsigned_abs (to_z w64 (of_z w64 z)) → lt_z (to_z w64 (of_z w64 z)) (pos 1) ≡ false → IsPart r
part_of_bits z text r found is low =
    let whole = (printed-whole_of text z (sym found)).0 in
    let same : to_z w64 (of_z w64 z) ≡ z = to_z-of_z w64 z (fits z whole) in
    subst IsPart (sym (is ∙ ap unsigned_abs same)) (part_of z whole (ap (λ y. lt_z y (pos 1)) (sym same) ∙ low))
