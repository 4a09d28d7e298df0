-- Sets that grow step by step, each by the one before it: after as many steps as there are places nothing is added.
use Rattle.std.proofs.Common.{◌≡◌, ◌⊎◌, inl, inr, ℕ, zero, suc, ◌+◌, ◌≤◌, ◌<◌, Bool, true, false, cond, ◌||◌, ◌==◌, List, [], ◌∷◌, length, filter, refl, sym, ap, ◌∙◌, arith}
use Rattle.std.specs.List.{list_any}
use Rattle.std.proofs.lemmas.Bool.{eqb-true, eq-eqb}
use Rattle.object_calls.specs.Reach.{is_among}

-- ---- what is in a list

pub among_first : (x : ℕ) (xs : List ℕ) → is_among x (x ∷ xs) ≡ true
among_first x xs = ap (λ b. b || is_among x xs) (eq-eqb x x refl)

pub among_more : (n x : ℕ) (xs : List ℕ) → is_among n xs ≡ true → is_among n (x ∷ xs) ≡ true
among_more n x xs h = by (x == n)
  where
    by : (b : Bool) → (b || is_among n xs) ≡ true
    by true = refl
    by false = h

-- the first, or one of the others
pub among_split : (n x : ℕ) (xs : List ℕ) → is_among n (x ∷ xs) ≡ true → (x ≡ n) ⊎ (is_among n xs ≡ true)
among_split n x xs h = by (x == n) refl h
  where
    by : (b : Bool) → (x == n) ≡ b → (b || is_among n xs) ≡ true → (x ≡ n) ⊎ (is_among n xs ≡ true)
    by true e k = inl (eqb-true x n e)
    by false e k = inr k

pub any_some : (f : ℕ → Bool) (xs : List ℕ) → list_any f xs ≡ true → (m : ℕ) × (is_among m xs ≡ true) × (f m ≡ true)
any_some f [] h = cc
any_some f (x ∷ xs) h = by (f x) refl h (any_some f xs)
  where
    by : (b : Bool) → f x ≡ b → (b || list_any f xs) ≡ true → (list_any f xs ≡ true → (m : ℕ) × (is_among m xs ≡ true) × (f m ≡ true)) → (m : ℕ) × (is_among m (x ∷ xs) ≡ true) × (f m ≡ true)
    by true e k more = (x, among_first x xs, e)
    by false e k more = let p = more k in (p.0, among_more p.0 x xs p.1, p.2)

pub any_of : (f : ℕ → Bool) (xs : List ℕ) (m : ℕ) → is_among m xs ≡ true → f m ≡ true → list_any f xs ≡ true
any_of f [] m h e = cc
any_of f (x ∷ xs) m h e = by (among_split m x xs h) (any_of f xs m)
  where
    at : (b : Bool) → f x ≡ b → list_any f xs ≡ true → (b || list_any f xs) ≡ true
    at true g k = refl
    at false g k = k

    by : (x ≡ m) ⊎ (is_among m xs ≡ true) → (is_among m xs ≡ true → f m ≡ true → list_any f xs ≡ true) → list_any f (x ∷ xs) ≡ true
    by (inl same) more = ap (λ b. b || list_any f xs) (ap f same ∙ e)
    by (inr k) more = at (f x) refl (more k e)

pub among_filter : (f : ℕ → Bool) (xs : List ℕ) (n : ℕ) → is_among n (filter f xs) ≡ true → (is_among n xs ≡ true) × (f n ≡ true)
among_filter f [] n h = cc
among_filter f (x ∷ xs) n h = by (f x) refl h (among_filter f xs n)
  where
    by : (b : Bool) → f x ≡ b → is_among n (cond b (x ∷ filter f xs) (filter f xs)) ≡ true → (is_among n (filter f xs) ≡ true → (is_among n xs ≡ true) × (f n ≡ true)) → (is_among n (x ∷ xs) ≡ true) × (f n ≡ true)
    by true e k more = first (among_split n x (filter f xs) k)
      where
        first : (x ≡ n) ⊎ (is_among n (filter f xs) ≡ true) → (is_among n (x ∷ xs) ≡ true) × (f n ≡ true)
        first (inl same) = (ap (λ b. b || is_among n xs) (eq-eqb x n same), sym (ap f same) ∙ e)
        first (inr j) = let p = more j in (among_more n x xs p.0, p.1)
    by false e k more = let p = more k in (among_more n x xs p.0, p.1)

pub filter_among : (f : ℕ → Bool) (xs : List ℕ) (n : ℕ) → is_among n xs ≡ true → f n ≡ true → is_among n (filter f xs) ≡ true
filter_among f [] n h e = cc
filter_among f (x ∷ xs) n h e = by (among_split n x xs h) (filter_among f xs n)
  where
    at : (b : Bool) → f x ≡ b → is_among n (filter f xs) ≡ true → is_among n (cond b (x ∷ filter f xs) (filter f xs)) ≡ true
    at true g k = among_more n x (filter f xs) k
    at false g k = k

    by : (x ≡ n) ⊎ (is_among n xs ≡ true) → (is_among n xs ≡ true → f n ≡ true → is_among n (filter f xs) ≡ true) → is_among n (filter f (x ∷ xs)) ≡ true
    by (inl same) more = ap (λ b. is_among n (cond b (x ∷ filter f xs) (filter f xs))) (ap f same ∙ e) ∙ ap (λ b. b || is_among n (filter f xs)) (eq-eqb x n same)
    by (inr k) more = at (f x) refl (more k e)

-- ---- counts

-- what passes the first test passes the second
abbrev pub Within : (ℕ → Bool) → (ℕ → Bool) → List ℕ → Type 0
Within p q xs = (n : ℕ) → is_among n xs ≡ true → p n ≡ true → q n ≡ true

abbrev count : (ℕ → Bool) → List ℕ → ℕ
count p [] = 0
count p (x ∷ xs) = cond (p x) 1 0 + count p xs

rest_within : (p q : ℕ → Bool) (x : ℕ) (xs : List ℕ) → Within p q (x ∷ xs) → Within p q xs
rest_within p q x xs w n h = w n (among_more n x xs h)

step_le : (a b : Bool) (m n : ℕ) → (a ≡ true → b ≡ true) → m ≤ n → cond a 1 0 + m ≤ cond b 1 0 + n
step_le true true m n h l = omega arith
step_le true false m n h l = let no = h refl in cc
step_le false true m n h l = omega arith
step_le false false m n h l = omega arith

tight_rest : (a b : Bool) (m n : ℕ) → (a ≡ true → b ≡ true) → cond b 1 0 + n ≤ cond a 1 0 + m → n ≤ m
tight_rest true true m n h l = omega arith
tight_rest true false m n h l = let no = h refl in cc
tight_rest false true m n h l = omega arith
tight_rest false false m n h l = omega arith

tight_first : (a b : Bool) (m n : ℕ) → m ≤ n → cond b 1 0 + n ≤ cond a 1 0 + m → b ≡ true → a ≡ true
tight_first true b m n k l e = refl
tight_first false true m n k l e = absurd (omega arith)
tight_first false false m n k l e = e

count_le : (p q : ℕ → Bool) (xs : List ℕ) → Within p q xs → count p xs ≤ count q xs
count_le p q [] w = omega arith
count_le p q (x ∷ xs) w = step_le (p x) (q x) (count p xs) (count q xs) (w x (among_first x xs)) (count_le p q xs (rest_within p q x xs w))

-- where as many pass the first test as the second, the same pass both
count_tight : (p q : ℕ → Bool) (xs : List ℕ) → Within p q xs → count q xs ≤ count p xs → Within q p xs
count_tight p q [] w l n h e = cc
count_tight p q (x ∷ xs) w l n h e = by (among_split n x xs h) (λ less k. count_tight p q xs (rest_within p q x xs w) less n k e)
  where
    rest : Within p q xs
    rest = rest_within p q x xs w

    by : (x ≡ n) ⊎ (is_among n xs ≡ true) → (count q xs ≤ count p xs → is_among n xs ≡ true → p n ≡ true) → p n ≡ true
    by (inl same) more = sym (ap p same) ∙ tight_first (p x) (q x) (count p xs) (count q xs) (count_le p q xs rest) l (ap q same ∙ e)
    by (inr k) more = more (tight_rest (p x) (q x) (count p xs) (count q xs) (w x (among_first x xs)) l) k

count_most : (p : ℕ → Bool) (xs : List ℕ) → count p xs ≤ length xs
count_most p [] = omega arith
count_most p (x ∷ xs) = by (p x) (count_most p xs)
  where
    by : (b : Bool) → count p xs ≤ length xs → cond b 1 0 + count p xs ≤ suc (length xs)
    by true l = omega arith
    by false l = omega arith

full_rest : (b : Bool) (m n : ℕ) → suc n ≤ cond b 1 0 + m → n ≤ m
full_rest true m n l = omega arith
full_rest false m n l = omega arith

full_first : (b : Bool) (m n : ℕ) → m ≤ n → suc n ≤ cond b 1 0 + m → b ≡ true
full_first true m n k l = refl
full_first false m n k l = absurd (omega arith)

count_full : (p : ℕ → Bool) (xs : List ℕ) → length xs ≤ count p xs → (n : ℕ) → is_among n xs ≡ true → p n ≡ true
count_full p [] l n h = cc
count_full p (x ∷ xs) l n h = by (among_split n x xs h) (λ less k. count_full p xs less n k)
  where
    by : (x ≡ n) ⊎ (is_among n xs ≡ true) → (length xs ≤ count p xs → is_among n xs ≡ true → p n ≡ true) → p n ≡ true
    by (inl same) more = sym (ap p same) ∙ full_first (p x) (count p xs) (length xs) (count_most p xs) l
    by (inr k) more = more (full_rest (p x) (count p xs) (length xs) l) k

-- ---- growth

module _ (xs : List ℕ) (p : ℕ → ℕ → Bool) (base : Within (p 0) (p 1) xs) (forward : (j k : ℕ) → Within (p j) (p k) xs → Within (p (suc j)) (p (suc k)) xs) where
  grows : (k : ℕ) → Within (p k) (p (suc k)) xs
  grows zero = base
  grows (suc k) = forward k (suc k) (grows k)

  from_start : (k : ℕ) → Within (p 0) (p k) xs
  from_start zero n h e = e
  from_start (suc k) n h e = grows k n h (from_start k n h e)

  stable_or_large : (k : ℕ) → (Within (p (suc k)) (p k) xs) ⊎ (k ≤ count (p k) xs)
  stable_or_large zero = inr (omega arith)
  stable_or_large (suc k) = by (stable_or_large k)
    where
      more : k ≤ count (p k) xs → (count (p (suc k)) xs ≤ count (p k) xs) ⊎ (count (p k) xs < count (p (suc k)) xs) → (Within (p (suc (suc k))) (p (suc k)) xs) ⊎ (suc k ≤ count (p (suc k)) xs)
      more l (inl few) = inl (forward (suc k) k (count_tight (p k) (p (suc k)) xs (grows k) few))
      more l (inr many) = inr (omega arith)

      by : (Within (p (suc k)) (p k) xs) ⊎ (k ≤ count (p k) xs) → (Within (p (suc (suc k))) (p (suc k)) xs) ⊎ (suc k ≤ count (p (suc k)) xs)
      by (inl stable) = inl (forward (suc k) k stable)
      by (inr l) = more l (grind arith)

  pub stable : Within (p (suc (length xs))) (p (length xs)) xs
  stable n h e = by (stable_or_large (length xs))
    where
      by : (Within (p (suc (length xs))) (p (length xs)) xs) ⊎ (length xs ≤ count (p (length xs)) xs) → p (length xs) n ≡ true
      by (inl w) = w n h e
      by (inr l) = count_full (p (length xs)) xs l n h

  -- whatever is found in some steps is found in as many as there are places
  pub enough : (j : ℕ) → Within (p j) (p (length xs)) xs
  enough zero n h e = from_start (length xs) n h e
  enough (suc j) n h e = stable n h (forward j (length xs) (enough j) n h e)
