-- Where no class is below itself, no way up is as long as there are classes.
use Rattle.std.proofs.Common.{◌≡◌, ◌≢◌, ◌<◌, ◌≤◌, ◌+◌, ◌⊎◌, inl, inr, ℕ, zero, suc, Bool, true, false, ◌||◌, nat_eq, List, [], ◌∷◌, length, refl, sym, ap, subst, ◌∙◌, arith}
use Rattle.std.specs.List.{list_any}
use Rattle.std.proofs.lemmas.Bool.{eqb-true, eq-eqb}
use Rattle.schema_kinds.specs.Links.{IsIn, row, IsUp, IsAtOrBelow, IsInRing, climbs}

-- NUMBERS BELOW A BOUND

abbrev AllBelow : ℕ → List ℕ → Type 0
AllBelow n [] = Unit {0}
AllBelow n (x ∷ xs) = (x < n) × AllBelow n xs

abbrev IsNot : ℕ → List ℕ → Type 0
IsNot x [] = Unit {0}
IsNot x (y ∷ ys) = (x ≢ y) × IsNot x ys

abbrev AreApart : List ℕ → Type 0
AreApart [] = Unit {0}
AreApart (x ∷ xs) = IsNot x xs × AreApart xs

lower : (n : ℕ) (xs : List ℕ) → AllBelow (suc n) xs → IsNot n xs → AllBelow n xs
lower n [] h apart = tt
lower n (x ∷ xs) h apart = (let low = h.0 in let other : x ≢ n = λ e. apart.0 (sym e) in omega (arith, low, other), lower n xs h.1 apart.1)

-- the numbers but the last of them all
record IsLess (n : ℕ) (xs : List ℕ) : Type 0 where
  rest : List ℕ
  low : AllBelow n rest
  apart : AreApart rest
  long : length xs ≤ suc (length rest)
  kept : (z : ℕ) → IsNot z xs → IsNot z rest

without_last : (n : ℕ) (xs : List ℕ) → AllBelow (suc n) xs → AreApart xs → IsLess n xs
without_last n [] low apart = record { rest = []; low = tt; apart = tt; long = omega arith; kept = λ z h. tt }
without_last n (x ∷ xs) low apart = by (nat_eq x n) refl (without_last n xs low.1 apart.1)
  where
    by : (b : Bool) → nat_eq x n ≡ b → IsLess n xs → IsLess n (x ∷ xs)
    by true e p =
        let same : x ≡ n = eqb-true x n e in
        record { rest = xs; low = lower n xs low.1 (subst (λ m. IsNot m xs) same apart.0); apart = apart.1; long = omega arith; kept = λ z h. h.1 }
    by false e p =
        let other : x ≢ n = λ s. let is = eq-eqb x n s in cc in
        let small = low.0 in
        let long = p.long in
        record { rest = x ∷ p.rest; low = (omega (arith, small, other), p.low); apart = (p.kept x apart.0, p.apart); long = omega (arith, long); kept = λ z h. (h.0, p.kept z h.1) }

-- there are no more of them than the bound
few : (n : ℕ) (xs : List ℕ) → AllBelow n xs → AreApart xs → length xs ≤ n
few zero [] low apart = omega arith
few zero (x ∷ xs) low apart = let no = low.0 in absurd (omega (arith, no))
few (suc n) xs low apart = let p = without_last n xs low apart in let rest = few n p.rest p.low p.apart in let long = p.long in omega (arith, rest, long)

-- WAYS UP

module _ (links : List (List ℕ)) (n : ℕ) (within : (a s : ℕ) → IsIn s (row links a) → s < n) (no_ring : (a : ℕ) → a < n → IsInRing links a → ⊥) where
  abbrev IsUnder : ℕ → ℕ → Type 0
  IsUnder s a = (t : ℕ) × IsIn t (row links s) × IsAtOrBelow links t a

  one_more : (k : ℕ) (u a s : ℕ) → IsUp links k u a → IsIn s (row links a) → IsUp links (suc k) u s
  one_more zero u a s up into = (s, subst (λ b. IsIn s (row links b)) (sym up) into, refl)
  one_more (suc k) u a s up into = (up.0, up.1, one_more k up.0 a s up.2 into)

  further : (t a s : ℕ) → IsUnder t a → IsIn s (row links a) → IsUnder t s
  further t a s under into = (under.0, under.1, (suc under.2.0, one_more under.2.0 under.0 a s under.2.1 into))

  abbrev AllUnder : List ℕ → ℕ → Type 0
  AllUnder [] a = Unit {0}
  AllUnder (s ∷ ss) a = IsUnder s a × AllUnder ss a

  all_further : (seen : List ℕ) (a s : ℕ) → AllUnder seen a → IsIn s (row links a) → AllUnder seen s
  all_further [] a s under into = tt
  all_further (t ∷ ts) a s under into = (further t a s under.0 into, all_further ts a s under.1 into)

  fresh : (seen : List ℕ) (a s : ℕ) → AllBelow n seen → AllUnder seen a → IsIn s (row links a) → IsNot s seen
  fresh [] a s low under into = tt
  fresh (t ∷ ts) a s low under into =
      (λ same. no_ring t low.0 (further t a t under.0 (subst (λ b. IsIn b (row links a)) same into)), fresh ts a s low.1 under.1 into)

  record IsWay (long : ℕ) : Type 0 where
    places : List ℕ
    low : AllBelow n places
    apart : AreApart places
    as_long : length places ≡ long

  some_in : (test : ℕ → Bool) (xs : List ℕ) → list_any test xs ≡ true → (s : ℕ) × IsIn s xs × (test s ≡ true)
  some_in test [] h = cc
  some_in test (x ∷ xs) h = by (test x) refl h (some_in test xs)
    where
      by : (b : Bool) → test x ≡ b → (b || list_any test xs) ≡ true → (list_any test xs ≡ true → (s : ℕ) × IsIn s xs × (test s ≡ true)) → (s : ℕ) × IsIn s (x ∷ xs) × (test s ≡ true)
      by true e k more = (x, inl refl, e)
      by false e k more = let p = more k in (p.0, inr p.1, p.2)

  way_of : (k a : ℕ) (seen : List ℕ) → climbs k links a ≡ true → AllBelow n (a ∷ seen) → AreApart (a ∷ seen) → AllUnder seen a → IsWay (suc (length seen) + k)
  way_of zero a seen h low apart under = record { places = a ∷ seen; low = low; apart = apart; as_long = omega arith }
  way_of (suc k) a seen h low apart under =
      let p = some_in (λ s. climbs k links s) (row links a) h in
      let next = way_of k p.0 (a ∷ seen) p.2 (within a p.0 p.1, low)
      (((λ same. no_ring a low.0 (a, subst (λ b. IsIn b (row links a)) same p.1, (0, refl))), fresh seen a p.0 low.1 under p.1), apart)
      ((p.0, p.1, (0, refl)), all_further seen a p.0 under p.1) in
      subst IsWay (let e : suc (length (a ∷ seen)) + k ≡ suc (length seen) + suc k = omega arith in e) next

  pub climbs_no_further : (a : ℕ) → a < n → climbs n links a ≡ false
  climbs_no_further a small = by (climbs n links a) refl
    where
      by : (b : Bool) → climbs n links a ≡ b → b ≡ false
      by true e =
          let w = way_of n a [] e (small, tt) (tt, tt) tt in
          let most = few n w.places w.low w.apart in
          let long = w.as_long in
          absurd (omega (arith, most, long))
      by false e = refl
