-- Members that are gathered by rank are those of all superclasses.
use Rattle.std.proofs.Common.{◌≡◌, ◌≢◌, ℕ, zero, suc, ◌+◌, ◌<◌, ◌≤◌, ◌⊎◌, inl, inr, Bool, false, List, [], ◌∷◌, map, filter_map, length, slice_get, slice_set, Option, Some, refl, sym, ap, subst, ◌∙◌, arith}
use Rattle.schema_kinds.specs.declared.tree.ClassTree.{ClassTree}
use Rattle.schema_kinds.specs.declared.hierarchy.Hierarchy.{Hierarchy}
use Rattle.schema_kinds.specs.Links.{IsIn, row, IsInRing, AreWithin, AreAllAbove, rank, climbs}
use Rattle.schema_kinds.specs.Hierarchy.{IsHierarchyOf, names_of, super_places}
use Rattle.schema_kinds.proofs.Ranks.{none-IsIn, rank_falls, rank_bound, climbs_bound, within-IsIn}
use Rattle.schema_kinds.proofs.Hierarchies.{links-within, length-map}
use Rattle.class_facts.specs.declared.members.Members.{Members}
use Rattle.class_facts.specs.Trees.{header_of, headers_of, super_links, members_with, members_up, members_of}
use Rattle.class_facts.specs.Gathered.{AreGathered, AreGatheredTo}
use Rattle.class_facts.proofs.SpotLists.{get-set, get-set_other, length-set}

map-same : {B : Type 0} (f g : ℕ → B) (xs : List ℕ) → ((s : ℕ) → IsIn s xs → f s ≡ g s) → map f xs ≡ map g xs
map-same f g [] h = refl
map-same f g (x ∷ xs) h = λ i. h x (inl refl) i ∷ map-same f g xs (λ s into. h s (inr into)) i

filter_map-all : {B : Type 0} (f : ℕ → Option B) (g : ℕ → B) (xs : List ℕ) → ((s : ℕ) → IsIn s xs → f s ≡ Some (g s)) → filter_map f xs ≡ map g xs
filter_map-all f g [] h = refl
filter_map-all f g (x ∷ xs) h = rw (h x (inl refl)) (ap (λ l. g x ∷ l) (filter_map-all f g xs (λ s into. h s (inr into))))

at_most : (j i : ℕ) → j < i + 1 → j ≢ i → j < i
at_most j i small d = omega (arith, d)

-- one more step up finds no more where no way is so long
pub members-stable : (trees : List ClassTree) (n i : ℕ) → climbs n (super_links trees) i ≡ false → members_up (suc n) trees i ≡ members_up n trees i
members-stable trees zero i h = cc
members-stable trees (suc n) i h =
    ap (members_with trees i) (map-same (λ s. members_up (suc n) trees s) (λ s. members_up n trees s) (row (super_links trees) i)
    (λ s into. members-stable trees n s (none-IsIn (λ t. climbs n (super_links trees) t) (row (super_links trees) i) s h into)))

-- the members of a class are its own and those of its superclasses
pub members-step : (trees : List ClassTree) (i : ℕ) → climbs (length trees) (super_links trees) i ≡ false
    → members_of trees i ≡ members_with trees i (map (λ s. members_of trees s) (row (super_links trees) i))
members-step trees i h = sym (members-stable trees (length trees) i h)

pub length-links : (trees : List ClassTree) → length (super_links trees) ≡ length trees
length-links trees = length-map (λ h. super_places (names_of (headers_of trees)) h.supers) (headers_of trees) ∙ length-map header_of trees

pub super-within : (trees : List ClassTree) → AreWithin (super_links trees) (length (super_links trees))
super-within trees =
    let long : length (names_of (headers_of trees)) ≡ length (super_links trees) = length-map (λ h. h.name.0) (headers_of trees) ∙ sym (length-map (λ h. super_places (names_of (headers_of trees)) h.supers) (headers_of trees)) in
    subst (AreWithin (super_links trees)) long (links-within (names_of (headers_of trees)) (headers_of trees))

pub above-tables : (trees : List ClassTree) (h : Hierarchy) → IsHierarchyOf (headers_of trees) h → AreAllAbove (super_links trees) (length (super_links trees)) h.above
above-tables trees h is = subst (λ n. AreAllAbove (super_links trees) n h.above) (length-map header_of trees ∙ sym (length-links trees)) is.above

module _ (trees : List ClassTree) (h : Hierarchy) (is : IsHierarchyOf (headers_of trees) h) (no_ring : (i : ℕ) → i < length trees → ¬ IsInRing (super_links trees) i) where
  tables : AreAllAbove (super_links trees) (length (super_links trees)) h.above
  tables = above-tables trees h is

  no_ring_there : (i : ℕ) → i < length (super_links trees) → ¬ IsInRing (super_links trees) i
  no_ring_there i small = no_ring i (subst (λ n. i < n) (length-links trees) small)

  pub members-here : (i : ℕ) → i < length trees → members_of trees i ≡ members_with trees i (map (λ s. members_of trees s) (row (super_links trees) i))
  members-here i small =
      members-step trees i (subst (λ n. climbs n (super_links trees) i ≡ false) (length-links trees)
      (climbs_bound (super_links trees) h.above tables (super-within trees) no_ring_there i (subst (λ n. i < n) (sym (length-links trees)) small)))

  pub rank-limit : (i : ℕ) → i < length trees → rank h.above i ≤ length trees
  rank-limit i small = subst (λ n. rank h.above i ≤ n) (length-links trees)
      (rank_bound (super_links trees) h.above tables (super-within trees) i (subst (λ n. i < n) (sym (length-links trees)) small))

  gathered-right : (r i : ℕ) (done : List Members) → i < length trees → rank h.above i ≡ r → AreGatheredTo trees h.above r i done
      → members_with trees i (filter_map (slice_get done) (row h.links i)) ≡ members_of trees i
  gathered-right r i done small at before =
      ap (λ l. members_with trees i (filter_map (slice_get done) (row l i))) is.links
      ∙ ap (members_with trees i) (filter_map-all (slice_get done) (λ s. members_of trees s) (row (super_links trees) i) there)
      ∙ sym (members-here i small)
    where
      there : (s : ℕ) → IsIn s (row (super_links trees) i) → slice_get done s ≡ Some (members_of trees s)
      there s into =
          let small_links : i < length (super_links trees) = subst (λ n. i < n) (sym (length-links trees)) small in
          let falls = rank_falls (super_links trees) h.above tables (super-within trees) i s small_links into (no_ring i small) in
          let inside = within-IsIn (super_links trees) h.above tables (super-within trees) i s into in
          before.each s (subst (λ n. s < n) (length-links trees) inside) (inl (omega (arith, at)))

  pub gathered-set : (r i : ℕ) (done : List Members) (m : Members) → i < length trees → rank h.above i ≡ r → AreGatheredTo trees h.above r i done
      → m ≡ members_with trees i (filter_map (slice_get done) (row h.links i)) → AreGatheredTo trees h.above r (i + 1) (slice_set done i m)
  gathered-set r i done m small at before is_m = record {
    as_many = length-set done i m ∙ before.as_many;
    each = λ j inside when. by j inside when (lib_eq i j);
  }
    where
      lib_eq : (i j : ℕ) → (i ≡ j) ⊎ (i ≢ j)
      lib_eq zero zero = inl refl
      lib_eq zero (suc j) = inr (λ e. omega (arith, e))
      lib_eq (suc i) zero = inr (λ e. omega (arith, e))
      lib_eq (suc i) (suc j) = elim (lib_eq i j) [ inl e ↦ inl (ap suc e) | inr d ↦ inr (λ e. d (omega (arith, e))) ]

      by : (j : ℕ) → j < length trees → (rank h.above j < r) ⊎ ((rank h.above j ≡ r) × (j < i + 1)) → (i ≡ j) ⊎ (i ≢ j) → slice_get (slice_set done i m) j ≡ Some (members_of trees j)
      by j inside when (inl e) =
          subst (λ k. slice_get (slice_set done i m) k ≡ Some (members_of trees k)) e
          (get-set done i m (omega (arith, before.as_many)) ∙ ap Some (is_m ∙ gathered-right r i done small at before))
      by j inside (inl low) (inr d) = get-set_other done i j m d ∙ before.each j inside (inl low)
      by j inside (inr same) (inr d) = get-set_other done i j m d ∙ before.each j inside (inr (same.0, omega (arith, same.1, d)))

  pub gathered-skip : (r i : ℕ) (done : List Members) → rank h.above i ≢ r → AreGatheredTo trees h.above r i done → AreGatheredTo trees h.above r (i + 1) done
  gathered-skip r i done off before = record {
    as_many = before.as_many;
    each = by;
  }
    where
      by : (j : ℕ) → j < length trees → (rank h.above j < r) ⊎ ((rank h.above j ≡ r) × (j < i + 1)) → slice_get done j ≡ Some (members_of trees j)
      by j inside (inl low) = before.each j inside (inl low)
      by j inside (inr same) = before.each j inside (inr (same.0, at_most j i same.1 (λ e. off (ap (rank h.above) (sym e) ∙ same.0))))

  pub gathered-next : (r : ℕ) (done : List Members) → AreGatheredTo trees h.above r (length trees) done → AreGatheredTo trees h.above (r + 1) 0 done
  gathered-next r done all = record {
    as_many = all.as_many;
    each = by;
  }
    where
      cases : (a r : ℕ) → a < r + 1 → (a < r) ⊎ (a ≡ r)
      cases a zero h = inr (omega arith)
      cases zero (suc r) h = inl (omega arith)
      cases (suc a) (suc r) h = elim (cases a r (omega arith)) [ inl l ↦ inl (omega (arith, l)) | inr e ↦ inr (ap suc e) ]

      by : (j : ℕ) → j < length trees → (rank h.above j < r + 1) ⊎ ((rank h.above j ≡ r + 1) × (j < 0)) → slice_get done j ≡ Some (members_of trees j)
      by j inside (inl low) = elim (cases (rank h.above j) r low) [ inl l ↦ all.each j inside (inl l) | inr e ↦ all.each j inside (inr (e, inside)) ]
      by j inside (inr same) = absurd (omega (arith, same.1))

  pub gathered-end : (done : List Members) → AreGatheredTo trees h.above (length trees + 1) 0 done → AreGathered trees done
  gathered-end done all = record {
    as_many = all.as_many;
    each = λ j inside. let limit = rank-limit j inside in all.each j inside (inl (omega arith));
  }

pub gathered-none : (trees : List ClassTree) (above : List (List Bool)) (done : List Members) → length done ≡ length trees → AreGatheredTo trees above 0 0 done
gathered-none trees above done long = record {
  as_many = long;
  each = by;
}
  where
    by : (j : ℕ) → j < length trees → (rank above j < 0) ⊎ ((rank above j ≡ 0) × (j < 0)) → slice_get done j ≡ Some (members_of trees j)
    by j inside (inl low) = absurd (omega (arith, low))
    by j inside (inr same) = absurd (omega (arith, same.1))
