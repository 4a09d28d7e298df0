-- The test of classes is the closure of superclasses: no way up needs more steps than there are classes.
use Rattle.std.proofs.Common.{◌≡◌, ◌↔◌, ◌⊎◌, inl, inr, ℕ, zero, suc, ◌≤◌, ◌<◌, Bool, true, false, ◌||◌, ◌==◌, List, [], ◌∷◌, length, Option, Some, None, refl, sym, ap, subst, ◌∙◌, arith}
use Rattle.std.specs.List.{list_any}
use Rattle.std.proofs.lemmas.Bool.{eqb-true, eq-eqb}
use Rattle.schema_kinds.specs.declared.class.Class.{Class}
use Rattle.schema_kinds.specs.Links.{IsIn, row, IsUp, IsAtOrBelow}
use Rattle.schema_kinds.specs.Hierarchy.{place_of, links_of, super_places, names_of}
use Rattle.schema_kinds.specs.Classes.{class_names, headers_of, header_of}
use Rattle.schema_kinds.proofs.Ranks.{any-IsIn}
use Rattle.schema_kinds.proofs.Hierarchies.{length-map}
use Rattle.object_calls.specs.Reach.{is_among}
use Rattle.object_calls.specs.Extents.{leads, leads_to, is_at_or_below}
use Rattle.call_laws.specs.Below.{TestTellsBelow}
use Rattle.call_laws.proofs.Growth.{among_more, Within, enough}

-- ---- the places below a number

abbrev places : ℕ → List ℕ
places zero = []
places (suc n) = n ∷ places n

places_long : (n : ℕ) → length (places n) ≡ n
places_long zero = refl
places_long (suc n) = ap suc (places_long n)

among_places : (n a : ℕ) → a < n → is_among a (places n) ≡ true
among_places zero a l = absurd (omega arith)
among_places (suc n) a l = by (grind arith) (among_places n a)
  where
    by : (n ≡ a) ⊎ (a < n) → (a < n → is_among a (places n) ≡ true) → is_among a (n ∷ places n) ≡ true
    by (inl same) more = ap (λ b. b || is_among a (places n)) (eq-eqb n a same)
    by (inr less) more = among_more a n (places n) (more less)

-- ---- rows

any_in : (f : ℕ → Bool) (xs : List ℕ) (s : ℕ) → IsIn s xs → f s ≡ true → list_any f xs ≡ true
any_in f [] s h e = absurd h
any_in f (x ∷ xs) s (inl same) e = ap (λ b. b || list_any f xs) (ap f (sym same) ∙ e)
any_in f (x ∷ xs) s (inr h) e = by (f x) (any_in f xs s h e)
  where
    by : (b : Bool) → list_any f xs ≡ true → (b || list_any f xs) ≡ true
    by true k = refl
    by false k = k

no_row : (links : List (List ℕ)) (s : ℕ) → length links ≤ s → row links s ≡ []
no_row [] s l = refl
no_row (r ∷ links) zero l = absurd (omega arith)
no_row (r ∷ links) (suc s) l = no_row links s (omega arith)

module _ (links : List (List ℕ)) (b : ℕ) where
  abbrev up : ℕ → ℕ → Bool
  up k a = leads k links b a

  at_end : (k a : ℕ) → (a == b) ≡ true → up k a ≡ true
  at_end zero a h = h
  at_end (suc k) a h = ap (λ t. t || list_any (up k) (row links a)) h

  by_row : (k a s : ℕ) → IsIn s (row links a) → up k s ≡ true → up (suc k) a ≡ true
  by_row k a s h e = by (a == b) (any_in (up k) (row links a) s h e)
    where
      by : (t : Bool) → list_any (up k) (row links a) ≡ true → (t || list_any (up k) (row links a)) ≡ true
      by true j = refl
      by false j = j

  up_by : (k a : ℕ) → up (suc k) a ≡ true → ((a == b) ≡ true) ⊎ ((s : ℕ) × IsIn s (row links a) × (up k s ≡ true))
  up_by k a h = by (a == b) refl h
    where
      by : (t : Bool) → (a == b) ≡ t → (t || list_any (up k) (row links a)) ≡ true → ((a == b) ≡ true) ⊎ ((s : ℕ) × IsIn s (row links a) × (up k s ≡ true))
      by true e j = inl e
      by false e j = inr (any-IsIn (up k) (row links a) j)

  -- from a place behind all rows nothing leads on
  up_outside : (k a : ℕ) → length links ≤ a → up k a ≡ true → (a == b) ≡ true
  up_outside zero a l h = h
  up_outside (suc k) a l h = by (up_by k a h)
    where
      by : ((a == b) ≡ true) ⊎ ((s : ℕ) × IsIn s (row links a) × (up k s ≡ true)) → (a == b) ≡ true
      by (inl e) = e
      by (inr p) = absurd (subst (IsIn p.0) (no_row links a l) p.1)

  base : Within (up 0) (up 1) (places (length links))
  base a h e = at_end 1 a e

  forward : (j k : ℕ) → Within (up j) (up k) (places (length links)) → Within (up (suc j)) (up (suc k)) (places (length links))
  forward j k w a h e = by (up_by j a e)
    where
      other : (s : ℕ) → up j s ≡ true → (s < length links) ⊎ (length links ≤ s) → up k s ≡ true
      other s g (inl less) = w s (among_places (length links) s less) g
      other s g (inr more) = at_end k s (up_outside j s more g)

      by : ((a == b) ≡ true) ⊎ ((s : ℕ) × IsIn s (row links a) × (up j s ≡ true)) → up (suc k) a ≡ true
      by (inl g) = at_end (suc k) a g
      by (inr p) = by_row k a p.0 p.1 (other p.0 p.2 (grind arith))

  -- as many steps as there are rows are enough
  all_up : (j a : ℕ) → up j a ≡ true → up (length links) a ≡ true
  all_up j a h = by (grind arith)
    where
      by : (a < length links) ⊎ (length links ≤ a) → up (length links) a ≡ true
      by (inl less) =
          subst (λ n. up n a ≡ true) (places_long (length links)) (enough (places (length links)) up base forward j a (among_places (length links) a less) h)
      by (inr more) = at_end (length links) a (up_outside j a more h)

  up_steps : (k a : ℕ) → IsUp links k a b → up k a ≡ true
  up_steps zero a h = eq-eqb a b h
  up_steps (suc k) a h = by_row k a h.0 h.1 (up_steps k h.0 h.2)

  steps_up : (k a : ℕ) → up k a ≡ true → IsAtOrBelow links a b
  steps_up zero a h = (0, eqb-true a b h)
  steps_up (suc k) a h = by (up_by k a h) (steps_up k)
    where
      by : ((a == b) ≡ true) ⊎ ((s : ℕ) × IsIn s (row links a) × (up k s ≡ true)) → ((s : ℕ) → up k s ≡ true → IsAtOrBelow links s b) → IsAtOrBelow links a b
      by (inl e) more = (0, eqb-true a b e)
      by (inr p) more = let q = more p.0 p.2 in (suc q.0, (p.0, p.1, q.1))

-- ---- by the names of classes

links_long : (classes : List Class) → length (links_of (headers_of classes)) ≡ length classes
links_long classes = length-map (λ h. super_places (names_of (headers_of classes)) h.supers) (headers_of classes) ∙ length-map header_of classes

test_tells : (classes : List Class) (x y : Option ℕ) → (leads_to classes x y ≡ true) ↔ ((i : ℕ) × (j : ℕ) × (x ≡ Some i) × (y ≡ Some j) × IsAtOrBelow (links_of (headers_of classes)) i j)
test_tells classes None y = ((λ h. cc), (λ p. let no = p.2 in cc))
test_tells classes (Some i) None = ((λ h. cc), (λ p. let no = p.3 in cc))
test_tells classes (Some i) (Some j) = (there, back)
  where
    there : leads (length classes) (links_of (headers_of classes)) j i ≡ true → (k : ℕ) × (l : ℕ) × (Some i ≡ Some k) × (Some j ≡ Some l) × IsAtOrBelow (links_of (headers_of classes)) k l
    there h = (i, j, refl, refl, steps_up (links_of (headers_of classes)) j (length classes) i h)

    back : (k : ℕ) × (l : ℕ) × (Some i ≡ Some k) × (Some j ≡ Some l) × IsAtOrBelow (links_of (headers_of classes)) k l → leads (length classes) (links_of (headers_of classes)) j i ≡ true
    back p =
        let same_i : p.0 ≡ i = let e = p.2 in cc in
        let same_j : p.1 ≡ j = let e = p.3 in cc in
        let up = p.4.1 in
        let from_i : IsUp (links_of (headers_of classes)) p.4.0 i j = subst (λ k. IsUp (links_of (headers_of classes)) p.4.0 k j) same_i (subst (λ l. IsUp (links_of (headers_of classes)) p.4.0 p.0 l) same_j up) in
        subst (λ n. leads n (links_of (headers_of classes)) j i ≡ true) (links_long classes)
        (all_up (links_of (headers_of classes)) j p.4.0 i (up_steps (links_of (headers_of classes)) j p.4.0 i from_i))

pub below_told : TestTellsBelow
unfolding is_at_or_below
below_told classes a b = test_tells classes (place_of (class_names classes) a) (place_of (class_names classes) b)
