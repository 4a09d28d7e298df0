-- Where no class is below itself, each class has fewer classes above it than those below it have.
use Rattle.std.proofs.Common.{◌≡◌, ℕ, zero, suc, ◌<◌, ◌≤◌, inl, inr, Bool, true, false, List, [], ◌∷◌, length, get_or, IsTrue, ◌||◌, refl, sym, ap, ◌∙◌, arith}
use Rattle.std.specs.List.{list_any}
use Rattle.schema_kinds.specs.Links.{IsIn, row, IsInRing, IsWithin, AreWithin, AreAllAbove, mark_at, marked, rank, climbs}
use Rattle.schema_kinds.proofs.Closure.{Grows}

pub any-IsIn : (test : ℕ → Bool) (xs : List ℕ) → list_any test xs ≡ true → (s : ℕ) × IsIn s xs × (test s ≡ true)
any-IsIn test [] h = cc
any-IsIn test (x ∷ xs) h = by (any-IsIn test xs) (test x) refl h
  where
    by : (list_any test xs ≡ true → (s : ℕ) × IsIn s xs × (test s ≡ true)) → (b : Bool) → test x ≡ b → b || list_any test xs ≡ true → (s : ℕ) × IsIn s (x ∷ xs) × (test s ≡ true)
    by more true e h = (x, inl refl, e)
    by more false e h = let rest = more h in (rest.0, inr rest.1, rest.2)

pub none-IsIn : (test : ℕ → Bool) (xs : List ℕ) (s : ℕ) → list_any test xs ≡ false → IsIn s xs → test s ≡ false
none-IsIn test [] s h into = absurd into
none-IsIn test (x ∷ xs) s h into = by (none-IsIn test xs s) (test x) refl h into
  where
    by : (list_any test xs ≡ false → IsIn s xs → test s ≡ false) → (b : Bool) → test x ≡ b → b || list_any test xs ≡ false → IsIn s (x ∷ xs) → test s ≡ false
    by more true e h into = cc
    by more false e h (inl same) = ap test same ∙ e
    by more false e h (inr rest) = more h rest

pub IsWithin-IsIn : (xs : List ℕ) (n s : ℕ) → IsWithin xs n → IsIn s xs → s < n
IsWithin-IsIn [] n s w into = absurd into
IsWithin-IsIn (x ∷ xs) n s w (inl e) = let h = w.0 in omega arith
IsWithin-IsIn (x ∷ xs) n s w (inr into) = IsWithin-IsIn xs n s w.1 into

pub AreWithin-row : (links : List (List ℕ)) (n a : ℕ) → AreWithin links n → IsWithin (row links a) n
AreWithin-row [] n a w = tt
AreWithin-row (r ∷ rows) n zero w = w.0
AreWithin-row (r ∷ rows) n (suc a) w = AreWithin-row rows n a w.1

Grows-from : (xs ys : List Bool) → length xs ≡ length ys → ((k : ℕ) → IsTrue (mark_at xs k) → IsTrue (mark_at ys k)) → Grows xs ys
Grows-from [] [] long h = tt
Grows-from [] (y ∷ ys) long h = absurd (omega (arith, long))
Grows-from (x ∷ xs) [] long h = absurd (omega (arith, long))
Grows-from (x ∷ xs) (y ∷ ys) long h = (h 0, Grows-from xs ys (omega (arith, long)) (λ k. h (suc k)))

marked-Grows : (xs ys : List Bool) → Grows xs ys → marked xs ≤ marked ys
marked-Grows [] [] g = omega arith
marked-Grows [] (y ∷ ys) g = absurd g
marked-Grows (x ∷ xs) [] g = absurd g
marked-Grows (true ∷ xs) (true ∷ ys) g = let r = marked-Grows xs ys g.1 in omega arith
marked-Grows (true ∷ xs) (false ∷ ys) g = cc (g.0 refl)
marked-Grows (false ∷ xs) (true ∷ ys) g = let r = marked-Grows xs ys g.1 in omega arith
marked-Grows (false ∷ xs) (false ∷ ys) g = let r = marked-Grows xs ys g.1 in omega arith

marked-more : (xs ys : List Bool) (k : ℕ) → Grows xs ys → mark_at xs k ≡ false → mark_at ys k ≡ true → marked xs < marked ys
marked-more [] [] k g off on = cc
marked-more [] (y ∷ ys) k g off on = absurd g
marked-more (x ∷ xs) [] k g off on = absurd g
marked-more (true ∷ xs) (y ∷ ys) zero g off on = cc
marked-more (false ∷ xs) (true ∷ ys) zero g off on = let r = marked-Grows xs ys g.1 in omega arith
marked-more (false ∷ xs) (false ∷ ys) zero g off on = cc
marked-more (true ∷ xs) (true ∷ ys) (suc k) g off on = let r = marked-more xs ys k g.1 off on in omega arith
marked-more (true ∷ xs) (false ∷ ys) (suc k) g off on = cc (g.0 refl)
marked-more (false ∷ xs) (true ∷ ys) (suc k) g off on = let r = marked-more xs ys k g.1 off on in omega arith
marked-more (false ∷ xs) (false ∷ ys) (suc k) g off on = let r = marked-more xs ys k g.1 off on in omega arith

marked-one : (xs : List Bool) (k : ℕ) → IsTrue (mark_at xs k) → 0 < marked xs
marked-one [] k h = cc
marked-one (true ∷ xs) zero h = omega arith
marked-one (false ∷ xs) zero h = cc
marked-one (true ∷ xs) (suc k) h = omega arith
marked-one (false ∷ xs) (suc k) h = let r = marked-one xs k h in omega arith

marked-bound : (xs : List Bool) → marked xs ≤ length xs
marked-bound [] = omega arith
marked-bound (true ∷ xs) = let r = marked-bound xs in omega arith
marked-bound (false ∷ xs) = let r = marked-bound xs in omega arith

not-true : (b : Bool) → ¬ IsTrue b → b ≡ false
not-true true h = absurd (h refl)
not-true false h = refl

module _ (links : List (List ℕ)) (above : List (List Bool)) (tables : AreAllAbove links (length links) above) (within : AreWithin links (length links)) where
  pub within-IsIn : (a s : ℕ) → IsIn s (row links a) → s < length links
  within-IsIn a s into = IsWithin-IsIn (row links a) (length links) s (AreWithin-row links (length links) a within) into

  -- one step up leaves fewer above
  pub rank_falls : (a s : ℕ) → a < length links → IsIn s (row links a) → ¬ IsInRing links a → rank above s < rank above a
  rank_falls a s small into no_ring =
      let here = tables.each a small in
      let there = tables.each s (within-IsIn a s into) in
      marked-more (get_or above s []) (get_or above a []) a
      (Grows-from (get_or above s []) (get_or above a []) (there.as_long ∙ sym here.as_long)
      (λ b m. let way = there.true_marks b m in here.all_marks b (suc way.0, (s, into, way.1))))
      (not-true (mark_at (get_or above s []) a) (λ m. no_ring (s, into, there.true_marks a m)))
      (here.all_marks a (0, refl))

  pub rank_bound : (a : ℕ) → a < length links → rank above a ≤ length links
  rank_bound a small = let long = (tables.each a small).as_long in let bound = marked-bound (get_or above a []) in omega arith

  module _ (no_ring : (a : ℕ) → a < length links → ¬ IsInRing links a) where
    climbs_few : (k a : ℕ) → a < length links → climbs k links a ≡ true → k < rank above a
    climbs_few zero a small h = marked-one (get_or above a []) a ((tables.each a small).all_marks a (0, refl))
    climbs_few (suc k) a small h =
        let step = any-IsIn (λ s. climbs k links s) (row links a) h in
        let more = climbs_few k step.0 (within-IsIn a step.0 step.1) step.2 in
        let falls = rank_falls a step.0 small step.1 (no_ring a small) in
        omega arith

    -- so no way up has as many steps as there are places
    pub climbs_bound : (a : ℕ) → a < length links → climbs (length links) links a ≡ false
    climbs_bound a small = not-true (climbs (length links) links a) (λ h. let few = climbs_few (length links) a small h in let bound = rank_bound a small in absurd (omega arith))
