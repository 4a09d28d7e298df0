-- Pieces of a text between delimiters, joined again: one stretch of the text.
use Rattle.std.proofs.Common.{◌≡◌, ℕ, zero, suc, ◌+◌, ◌-◌, ◌<◌, ◌≤◌, Bool, true, false, cond, ◌&&◌, nat_le, List, [], ◌∷◌, ◌++◌, length, take, drop, Option, Some, None, get_or, slice_get, refl, sym, ap, subst, ◌∙◌, arith, append-nil}
use Rattle.std.specs.Str.{bytes_eq}
use Rattle.std.proofs.lemmas.List.{drop_all, take_all, drop-take, drop-drop}
use Rattle.std.proofs.lemmas.Option.{none-some, same_Some}
use Rattle.std.proofs.lemmas.Slice.Eq.{bytes_eq-Decides}
use Rattle.std.proofs.lemmas.Bool.Decides.{nat_tests}
use Rattle.memchr.specs.Find.{occurs_at, match_len, matches_from, matches}
use Rattle.os_value.specs.Pieces.{pieces_behind, pieces, behind_others, joined_by}
use Rattle.os_value.proofs.PartLaws.{neighbours}

-- the delimiter stands at each of the places, each behind the end of the one before it
abbrev pub Cuts : List ℕ → List ℕ → ℕ → List ℕ → Type 0
Cuts text d from [] = from ≤ length text
Cuts text d from (at ∷ places) = (from ≤ at) × (drop at (take (at + length d) text) ≡ d) × (at + length d ≤ length text) × Cuts text d (at + length d) places

both : (a b : Bool) → a && b ≡ true → (a ≡ true) × (b ≡ true)
both true b h = (refl, h)
both false b h = cc

pub cuts_from : (text d : List ℕ) → 0 < length d → (n skip i from : ℕ) → from ≤ i + skip → from ≤ length text → Cuts text d from (matches_from text d skip i n)
unfolding matches_from
cuts_from text d some zero zero i from p q = q
cuts_from text d some zero (suc skip) i from p q = q
cuts_from text d some (suc n) (suc skip) i from p q = cuts_from text d some n skip (i + 1) from (omega arith) q
cuts_from text d some (suc n) zero i from p q =
    by (occurs_at text d i) refl (λ fits. cuts_from text d some n (match_len d - 1) (i + 1) (i + length d) (omega arith) fits) (cuts_from text d some n zero (i + 1) from (omega arith) q)
  where
    by : (b : Bool) → occurs_at text d i ≡ b → (i + length d ≤ length text → Cuts text d (i + length d) (matches_from text d (match_len d - 1) (i + 1) n)) → Cuts text d from (matches_from text d 0 (i + 1) n) → Cuts text d from (cond b (i ∷ matches_from text d (match_len d - 1) (i + 1) n) (matches_from text d 0 (i + 1) n))
    by false e hit miss = miss
    by true e hit miss =
        let parts = both (nat_le (i + length d) (length text)) (bytes_eq (take (length d) (drop i text)) d) e in
        let fits : i + length d ≤ length text = grind (arith, nat_tests, parts.0) in
        (omega arith, drop-take i (length d) text ∙ (bytes_eq-Decides (take (length d) (drop i text)) d).0 parts.1, fits, hit fits)

cuts : (text d places : List ℕ) → 0 < length d → places ≡ matches text d 0 → Cuts text d 0 places
cuts text d places some e = subst (Cuts text d 0) (sym e) (cuts_from text d some (length text + 1 - 0) 0 0 0 (omega arith) (omega arith))

-- a piece ends behind where it begins
ends_behind : (text d : List ℕ) (b from : ℕ) (places : List ℕ) → Cuts text d from places → from ≤ get_or places b (length text)
ends_behind text d b from [] c = c
ends_behind text d zero from (at ∷ places) c = c.0
ends_behind text d (suc b) from (at ∷ places) c = let more = ends_behind text d b (at + length d) places c.3 in let low = c.0 in omega (arith, more, low)

others : (text d : List ℕ) (b from : ℕ) (places : List ℕ) → behind_others d (take (suc b) (pieces_behind text (length d) from places)) ≡ d ++ joined_by d (take (suc b) (pieces_behind text (length d) from places))
others text d b from [] = refl
others text d b from (at ∷ places) = refl

-- the first pieces joined are the text up to the end of the last of them
front_joined : (text d : List ℕ) (b from : ℕ) (places : List ℕ) → Cuts text d from places → joined_by d (take (suc b) (pieces_behind text (length d) from places)) ≡ drop from (take (get_or places b (length text)) text)
front_joined text d b from [] c =
    ap (λ ps. drop from text ++ behind_others d ps) (take_all b [] (omega arith)) ∙ append-nil (drop from text) ∙ ap (drop from) (sym (take_all (length text) text (omega arith)))
front_joined text d zero from (at ∷ places) c = append-nil (drop from (take at text))
front_joined text d (suc b) from (at ∷ places) c =
    let e = get_or places b (length text) in
    let far = ends_behind text d b (at + length d) places c.3 in
    let low = c.0 in
    ap (λ w. drop from (take at text) ++ w) (
    others text d b (at + length d) places
    ∙ ap (λ w. d ++ w) (front_joined text d b (at + length d) places c.3)
    ∙ ap (λ w. w ++ drop (at + length d) (take e text)) (sym c.1)
    ∙ neighbours at (at + length d) e text (omega arith) far)
    ∙ neighbours from at e text low (omega (arith, far))

-- the pieces behind others begin where the delimiter before them ends
behind_joined : (text d : List ℕ) (a b from : ℕ) (places : List ℕ) → Cuts text d from places → (at : ℕ) → slice_get places a ≡ Some at → a ≤ b → joined_by d (drop (suc a) (take (suc (suc b)) (pieces_behind text (length d) from places))) ≡ drop (at + length d) (take (get_or places (suc b) (length text)) text)
behind_joined text d a b from [] c at e le = absurd (none-some at e)
behind_joined text d zero b from (x ∷ places) c at e le =
    front_joined text d b (x + length d) places c.3 ∙ ap (λ k. drop (k + length d) (take (get_or places b (length text)) text)) (same_Some x at e)
behind_joined text d (suc a) zero from (x ∷ places) c at e le = absurd (omega arith)
behind_joined text d (suc a) (suc b) from (x ∷ places) c at e le = behind_joined text d a b (x + length d) places c.3 at e (omega arith)

-- behind the last delimiter is one piece and no more
gone : (text : List ℕ) (k a n from : ℕ) (places : List ℕ) → slice_get places a ≡ None → drop (suc a) (take n (pieces_behind text k from places)) ≡ []
gone text k a zero from places e = drop_all (suc a) [] (omega arith)
gone text k a (suc zero) from [] e = drop_all a [] (omega arith)
gone text k a (suc (suc n)) from [] e = drop_all a [] (omega arith)
gone text k zero (suc n) from (x ∷ places) e = absurd (none-some x (sym e))
gone text k (suc a) (suc n) from (x ∷ places) e = gone text k a n (x + k) places e

-- with a delimiter of a byte or more
pieces_are : (text d : List ℕ) → 0 < length d → pieces d text ≡ pieces_behind text (length d) 0 (matches text d 0)
pieces_are text [] some = absurd (omega (arith, some))
pieces_are text (byte ∷ more) some = refl

pieces_at : (text d places : List ℕ) → 0 < length d → places ≡ matches text d 0 → pieces d text ≡ pieces_behind text (length d) 0 places
pieces_at text d places some e = pieces_are text d some ∙ ap (pieces_behind text (length d) 0) (sym e)

few : (n : ℕ) (xs : List (List ℕ)) → length (take n xs) ≤ n
few zero xs = omega arith
few (suc n) [] = omega arith
few (suc n) (x ∷ xs) = let more = few n xs in omega (arith, more)

back : (n : ℕ) → suc n - 1 ≡ n
back n = omega arith

pub none_joined : (text d : List ℕ) (a b : ℕ) → b ≤ a → joined_by d (drop a (take b (pieces d text))) ≡ []
none_joined text d a b le =
    let small = few b (pieces d text) in
    ap (joined_by d) (drop_all a (take b (pieces d text)) (omega (arith, small)))

pub none_of_empty : (text d : List ℕ) (a b : ℕ) → length d ≡ 0 → joined_by d (drop a (take b (pieces d text))) ≡ []
none_of_empty text [] a zero e = ap (joined_by []) (drop_all a [] (omega arith))
none_of_empty text [] a (suc b) e = ap (joined_by []) (drop_all a [] (omega arith))
none_of_empty text (byte ∷ more) a b e = absurd (omega (arith, e))

pub first_joined : (text d places : List ℕ) (b : ℕ) → 0 < length d → places ≡ matches text d 0 → 0 < b → joined_by d (take b (pieces d text)) ≡ take (get_or places (b - 1) (length text)) text
first_joined text d places zero some e pos = absurd (omega (arith, pos))
first_joined text d places (suc b) some e pos = ap (λ ps. joined_by d (take (suc b) ps)) (pieces_at text d places some e) ∙ front_joined text d b 0 places (cuts text d places some e) ∙ ap (λ n. take (get_or places n (length text)) text) (sym (back b))

pub later_joined : (text d places : List ℕ) (a b at : ℕ) → 0 < length d → places ≡ matches text d 0 → 0 < a → a < b → slice_get places (a - 1) ≡ Some at → joined_by d (drop a (take b (pieces d text))) ≡ drop (length d) (drop at (take (get_or places (b - 1) (length text)) text))
later_joined text d places zero b at some e low high found = absurd (omega (arith, low))
later_joined text d places (suc a) zero at some e low high found = absurd (omega (arith, high))
later_joined text d places (suc a) (suc zero) at some e low high found = absurd (omega (arith, high))
later_joined text d places (suc a) (suc (suc b)) at some e low high found =
    ap (λ ps. joined_by d (drop (suc a) (take (suc (suc b)) ps))) (pieces_at text d places some e)
    ∙ behind_joined text d a b 0 places (cuts text d places some e) at (ap (slice_get places) (sym (back a)) ∙ found) (omega (arith, high))
    ∙ sym (drop-drop (length d) at (take (get_or places (suc b) (length text)) text))
    ∙ ap (λ n. drop (length d) (drop at (take (get_or places n (length text)) text))) (sym (back (suc b)))

pub past_joined : (text d places : List ℕ) (a b : ℕ) → 0 < length d → places ≡ matches text d 0 → 0 < a → slice_get places (a - 1) ≡ None → joined_by d (drop a (take b (pieces d text))) ≡ []
past_joined text d places zero b some e low missing = absurd (omega (arith, low))
past_joined text d places (suc a) b some e low missing =
    ap (joined_by d) (ap (λ ps. drop (suc a) (take b ps)) (pieces_at text d places some e) ∙ gone text (length d) a b 0 places (ap (slice_get places) (sym (back a)) ∙ missing))

-- one piece more than delimiters
count : (text : List ℕ) (k from : ℕ) (places : List ℕ) → length (pieces_behind text k from places) ≡ suc (length places)
count text k from [] = refl
count text k from (at ∷ places) = ap suc (count text k (at + k) places)

last_end : (places : List ℕ) (len : ℕ) → get_or places (length places) len ≡ len
last_end [] len = refl
last_end (at ∷ places) len = last_end places len

pub all_joined : (d text : List ℕ) → 0 < length d → joined_by d (pieces d text) ≡ text
all_joined d text some =
    let places = matches text d 0 in
    let many = count text (length d) 0 places in
    ap (joined_by d) (pieces_are text d some ∙ sym (take_all (suc (length places)) (pieces_behind text (length d) 0 places) (omega (arith, many))))
    ∙ front_joined text d (length places) 0 places (cuts text d places some refl)
    ∙ ap (λ n. take n text) (last_end places (length text))
    ∙ take_all (length text) text (omega arith)
