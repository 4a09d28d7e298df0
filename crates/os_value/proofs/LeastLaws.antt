-- A search answers the least place at which a text stands.
use Rattle.std.proofs.Common.{◌≡◌, ℕ, zero, suc, pred, ◌+◌, ◌-◌, ◌<◌, ◌≤◌, Bool, true, false, cond, ◌&&◌, nat_le, List, [], ◌∷◌, length, take, drop, Option, Some, None, refl, sym, ap, ◌∙◌, arith}
use Rattle.std.specs.Str.{bytes_eq}
use Rattle.std.proofs.lemmas.List.{drop_all}
use Rattle.std.proofs.lemmas.Option.{none-some, same_Some}
use Rattle.std.proofs.lemmas.Slice.Eq.{bytes_eq-Decides}
use Rattle.std.proofs.lemmas.Bool.Decides.{nat_tests}
use Rattle.memchr.specs.Find.{occurs_at, match_len, matches_from, matches, first_of}
use Rattle.os_value.specs.Comparisons.{place_of}

second : (a b : Bool) → a && b ≡ true → b ≡ true
second true b h = h
second false b h = cc

together : (a b : Bool) → a ≡ true → b ≡ true → a && b ≡ true
together true b g h = h
together false b g h = cc

true_false : (b : Bool) → b ≡ true → b ≡ false → ⊥
true_false true g h = cc
true_false false g h = cc

module _ (text d : List ℕ) where
  -- the first match is one
  first_stands : (n i at : ℕ) → first_of (matches_from text d 0 i n) ≡ Some at → occurs_at text d at ≡ true
  unfolding matches_from first_of
  first_stands zero i at e = absurd (none-some at e)
  first_stands (suc n) i at e = by (occurs_at text d i) refl (λ h. first_stands n (i + 1) at h) e
    where
      by : (b : Bool) → occurs_at text d i ≡ b → (first_of (matches_from text d 0 (i + 1) n) ≡ Some at → occurs_at text d at ≡ true) → first_of (cond b (i ∷ matches_from text d (match_len d - 1) (i + 1) n) (matches_from text d 0 (i + 1) n)) ≡ Some at → occurs_at text d at ≡ true
      by true o on h = ap (occurs_at text d) (sym (same_Some i at h)) ∙ o
      by false o on h = on h

  -- none stands before it
  first_least : (n i at k : ℕ) → first_of (matches_from text d 0 i n) ≡ Some at → i ≤ k → k < at → occurs_at text d k ≡ false
  unfolding matches_from first_of
  first_least zero i at k e low high = absurd (none-some at e)
  first_least (suc n) i at k e low high = by (occurs_at text d i) refl (λ h behind. first_least n (i + 1) at k h behind high) e
    where
      later : (same : ℕ) → k ≡ i + same → occurs_at text d i ≡ false → (i + 1 ≤ k → occurs_at text d k ≡ false) → occurs_at text d k ≡ false
      later zero is o on = ap (occurs_at text d) (omega (arith, is)) ∙ o
      later (suc more) is o on = on (omega (arith, is))

      by : (b : Bool) → occurs_at text d i ≡ b → (first_of (matches_from text d 0 (i + 1) n) ≡ Some at → i + 1 ≤ k → occurs_at text d k ≡ false) → first_of (cond b (i ∷ matches_from text d (match_len d - 1) (i + 1) n) (matches_from text d 0 (i + 1) n)) ≡ Some at → occurs_at text d k ≡ false
      by true o on h = let is = same_Some i at h in absurd (omega (arith, is, low, high))
      by false o on h = later (k - i) (omega (arith, low)) o (on h)

  -- where no match is found, none stands
  none_stands : (n i k : ℕ) → first_of (matches_from text d 0 i n) ≡ None → i ≤ k → k < i + n → occurs_at text d k ≡ false
  unfolding matches_from first_of
  none_stands zero i k e low high = absurd (omega (arith, low, high))
  none_stands (suc n) i k e low high = by (occurs_at text d i) refl (λ h behind. none_stands n (i + 1) k h behind (omega (arith, high))) e
    where
      later : (same : ℕ) → k ≡ i + same → occurs_at text d i ≡ false → (i + 1 ≤ k → occurs_at text d k ≡ false) → occurs_at text d k ≡ false
      later zero is o on = ap (occurs_at text d) (omega (arith, is)) ∙ o
      later (suc more) is o on = on (omega (arith, is))

      by : (b : Bool) → occurs_at text d i ≡ b → (first_of (matches_from text d 0 (i + 1) n) ≡ None → i + 1 ≤ k → occurs_at text d k ≡ false) → first_of (cond b (i ∷ matches_from text d (match_len d - 1) (i + 1) n) (matches_from text d 0 (i + 1) n)) ≡ None → occurs_at text d k ≡ false
      by true o on h = absurd (none-some i (sym h))
      by false o on h = later (k - i) (omega (arith, low)) o (on h)

short : (n : ℕ) (xs : List ℕ) → length (take n xs) ≡ n → n ≤ length xs
short zero xs e = omega arith
short (suc n) [] e = absurd (omega (arith, e))
short (suc n) (x ∷ xs) e = let more = short n xs (ap pred e) in omega (arith, more)

-- what is as long as the text that is sought fits where it stands
room : (k n : ℕ) (xs : List ℕ) → 0 < n → length (take n (drop k xs)) ≡ n → k + n ≤ length xs
room zero n xs some e = let fits = short n xs e in omega (arith, fits)
room (suc k) zero xs some e = absurd (omega (arith, some))
room (suc k) (suc n) [] some e = let is = ap (λ l. length {A = ℕ} (take (suc n) l)) (sym (drop_all {X = ℕ} (suc k) [] (omega arith))) ∙ e in absurd (omega (arith, is))
room (suc k) (suc n) (x ∷ xs) some e = let more = room k (suc n) xs some e in omega (arith, more)

stands_there : (text d : List ℕ) (k : ℕ) → 0 < length d → take (length d) (drop k text) ≡ d → occurs_at text d k ≡ true
stands_there text d k some e =
    let fits = room k (length d) text some (ap length e) in
    together (nat_le (k + length d) (length text)) (bytes_eq (take (length d) (drop k text)) d) (grind (arith, nat_tests, fits)) ((bytes_eq-Decides (take (length d) (drop k text)) d).1 e)

pub stands_at : (text sought : List ℕ) (at : ℕ) → place_of text sought ≡ Some at → take (length sought) (drop at text) ≡ sought
stands_at text d at e =
    let o = first_stands text d (length text + 1 - 0) 0 at e in
    (bytes_eq-Decides (take (length d) (drop at text)) d).0 (second (nat_le (at + length d) (length text)) (bytes_eq (take (length d) (drop at text)) d) o)

pub least_at : (text sought : List ℕ) (at k : ℕ) → 0 < length sought → place_of text sought ≡ Some at → k < at → ¬ (take (length sought) (drop k text) ≡ sought)
least_at text d at k some e low is =
    true_false (occurs_at text d k) (stands_there text d k some is) (first_least text d (length text + 1 - 0) 0 at k e (omega arith) low)

pub none_at : (text sought : List ℕ) (k : ℕ) → 0 < length sought → place_of text sought ≡ None → ¬ (take (length sought) (drop k text) ≡ sought)
none_at text d k some e is =
    let fits = room k (length d) text some (ap length is) in
    true_false (occurs_at text d k) (stands_there text d k some is) (none_stands text d (length text + 1 - 0) 0 k e (omega arith) (omega (arith, fits)))
