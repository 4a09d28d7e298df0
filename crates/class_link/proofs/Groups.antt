-- The passes before the last one find the first reason of their groups.
use Rattle.std.proofs.Common.{◌≡◌, ◌≢◌, ℕ, zero, suc, ◌+◌, ◌<◌, ◌≤◌, ◌⊎◌, inl, inr, Bool, true, false, cond, List, [], ◌∷◌, ◌++◌, take, length, get_or, slice_get, Option, Some, None, refl, sym, ap, subst, ◌∙◌, append-nil, arith}
use Rattle.std.specs.List.{list_any}
use Rattle.std.proofs.lemmas.List.{append_assoc}
use Rattle.schema_kinds.specs.declared.tree.ClassTree.{ClassTree}
use Rattle.schema_kinds.specs.declared.hierarchy.Hierarchy.{Hierarchy}
use Rattle.schema_kinds.specs.Links.{IsIn, row, IsInRing, AreAllAbove, mark_at}
use Rattle.schema_kinds.specs.Hierarchy.{same_text, IsHierarchyOf}
use Rattle.schema_kinds.proofs.Ranks.{any-IsIn, none-IsIn, within-IsIn}
use Rattle.class_link.specs.declared.error.LinkWhy.{LinkWhy}
use Rattle.class_link.specs.declared.error.LinkWhy.TheVariants.{RepeatedClass, UnknownSuper, SuperRing, UnknownType}
use Rattle.class_facts.specs.Trees.{headers_of, tree_names, super_links, supers_of}
use Rattle.class_facts.specs.Facts.{facts_of, props_in}
use Rattle.class_checks.specs.Reasons.{is_repeated, has_unknown, has_unknown_type}
use Rattle.class_link.specs.Refusal.{Has, group_of, number_of, IsFirstReason}
use Rattle.class_link.specs.Passes.{IsFirstOf, first_repeated, name_reason, ring_mark, super_reason, type_reason}
use Rattle.class_link.specs.Linking.{NoneBelow, IsRefusal, IsOf}
use Rattle.class_link.specs.declared.error.LinkError.{LinkError}
use Rattle.class_link.specs.declared.error.LinkError.TheVariants as error
use Rattle.class_facts.proofs.FactLemmas.{length-names}
use Rattle.class_facts.proofs.Gathering.{super-within, length-links, above-tables}
use Rattle.class_link.proofs.FirstReason.{IsGroup}

-- a test that gives one reason
one-some : (b : Bool) (w why : LinkWhy) → cond b (Some w) None ≡ Some why → (b ≡ true) × (w ≡ why)
one-some true w why h = (refl, cc)
one-some false w why h = cc

one-none : (b : Bool) (w : LinkWhy) → cond b (Some w) None ≡ None → b ≡ false
one-none true w h = cc
one-none false w h = refl

off-on : (b : Bool) → b ≡ false → b ≡ true → ⊥
off-on b off on = cc

pub name-group : (trees : List ClassTree) → IsGroup trees 1 (name_reason (tree_names trees))
name-group trees = record {
  sound = λ i why small h. let is = one-some (is_repeated (tree_names trees) i) RepeatedClass why h in (subst (Has trees i) is.1 is.0, ap group_of (sym is.1));
  least = λ i why other small h has g. let is = one-some (is_repeated (tree_names trees) i) RepeatedClass why h in least other why is.1 g;
  whole = λ i other small h has g. whole i other (one-none (is_repeated (tree_names trees) i) RepeatedClass h) has g;
}
  where
    least : (other why : LinkWhy) → RepeatedClass ≡ why → group_of other ≡ 1 → number_of why ≤ number_of other
    least RepeatedClass why e g = omega (arith, ap number_of e)
    least other why e g = absurd (omega (arith, g))

    whole : (i : ℕ) (other : LinkWhy) → is_repeated (tree_names trees) i ≡ false → Has trees i other → group_of other ≢ 1
    whole i RepeatedClass off has g = off-on (is_repeated (tree_names trees) i) off has
    whole i other off has g = absurd (omega (arith, g))

pub type-group : (trees : List ClassTree) → IsGroup trees 3 (type_reason trees (facts_of trees))
type-group trees = record {
  sound = λ i why small h. let is = one-some (has_unknown_type trees (facts_of trees) (props_in (facts_of trees) i)) UnknownType why h in (subst (Has trees i) is.1 is.0, ap group_of (sym is.1));
  least = λ i why other small h has g. let is = one-some (has_unknown_type trees (facts_of trees) (props_in (facts_of trees) i)) UnknownType why h in least other why is.1 g;
  whole = λ i other small h has g. whole i other (one-none (has_unknown_type trees (facts_of trees) (props_in (facts_of trees) i)) UnknownType h) has g;
}
  where
    least : (other why : LinkWhy) → UnknownType ≡ why → group_of other ≡ 3 → number_of why ≤ number_of other
    least UnknownType why e g = omega (arith, ap number_of e)
    least other why e g = absurd (omega (arith, g))

    whole : (i : ℕ) (other : LinkWhy) → has_unknown_type trees (facts_of trees) (props_in (facts_of trees) i) ≡ false → Has trees i other → group_of other ≢ 3
    whole i UnknownType off has g = off-on (has_unknown_type trees (facts_of trees) (props_in (facts_of trees) i)) off has
    whole i other off has g = absurd (omega (arith, g))

two-some : (a b : Bool) (why : LinkWhy) → cond a (Some UnknownSuper) (cond b (Some SuperRing) None) ≡ Some why
    → ((a ≡ true) × (why ≡ UnknownSuper)) ⊎ ((a ≡ false) × (b ≡ true) × (why ≡ SuperRing))
two-some true b why h = inl (refl, cc)
two-some false true why h = inr (refl, refl, cc)
two-some false false why h = cc

two-none : (a b : Bool) → cond a (Some UnknownSuper) (cond b (Some SuperRing) None) ≡ None → (a ≡ false) × (b ≡ false)
two-none true b h = cc
two-none false true h = cc
two-none false false h = (refl, refl)

module _ (trees : List ClassTree) (h : Hierarchy) (is : IsHierarchyOf (headers_of trees) h) (i : ℕ) (small : i < length trees) where
  small_links : i < length (super_links trees)
  small_links = subst (λ n. i < n) (sym (length-links trees)) small

  links_mark : ring_mark h.links h.above i ≡ ring_mark (super_links trees) h.above i
  links_mark = ap (λ l. ring_mark l h.above i) is.links

  all_above : AreAllAbove (super_links trees) (length (super_links trees)) h.above
  all_above = above-tables trees h is

  inside : (s : ℕ) → IsIn s (row (super_links trees) i) → s < length (super_links trees)
  inside s into = within-IsIn (super_links trees) h.above all_above (super-within trees) i s into

  ring-is : ring_mark h.links h.above i ≡ true → IsInRing (super_links trees) i
  ring-is on =
      let found = any-IsIn (λ s. mark_at (get_or h.above s []) i) (row (super_links trees) i) (sym links_mark ∙ on) in
      (found.0, found.1, (all_above.each found.0 (inside found.0 found.1)).true_marks i found.2)

  ring-not : ring_mark h.links h.above i ≡ false → IsInRing (super_links trees) i → ⊥
  ring-not off ring =
      off-on (mark_at (get_or h.above ring.0 []) i)
      (none-IsIn (λ s. mark_at (get_or h.above s []) i) (row (super_links trees) i) ring.0 (sym links_mark ∙ off) ring.1)
      ((all_above.each ring.0 (inside ring.0 ring.1)).all_marks i ring.2)

  unknown_same : has_unknown h.names (supers_of (slice_get trees i)) ≡ has_unknown (tree_names trees) (supers_of (slice_get trees i))
  unknown_same = ap (λ n. has_unknown n (supers_of (slice_get trees i))) is.names

  super-sound : (why : LinkWhy) → super_reason trees h i ≡ Some why → Has trees i why × (group_of why ≡ 2)
  super-sound why e = by (two-some (has_unknown h.names (supers_of (slice_get trees i))) (ring_mark h.links h.above i) why e)
    where
      by : ((has_unknown h.names (supers_of (slice_get trees i)) ≡ true) × (why ≡ UnknownSuper)) ⊎ ((has_unknown h.names (supers_of (slice_get trees i)) ≡ false) × (ring_mark h.links h.above i ≡ true) × (why ≡ SuperRing)) → Has trees i why × (group_of why ≡ 2)
      by (inl p) = (subst (Has trees i) (sym p.1) (sym unknown_same ∙ p.0), ap group_of p.1)
      by (inr p) = (subst (Has trees i) (sym p.2) (ring-is p.1), ap group_of p.2)

  super-least : (why other : LinkWhy) → super_reason trees h i ≡ Some why → Has trees i other → group_of other ≡ 2 → number_of why ≤ number_of other
  super-least why other e has g = by other (two-some (has_unknown h.names (supers_of (slice_get trees i))) (ring_mark h.links h.above i) why e) has g
    where
      by : (other : LinkWhy) → ((has_unknown h.names (supers_of (slice_get trees i)) ≡ true) × (why ≡ UnknownSuper)) ⊎ ((has_unknown h.names (supers_of (slice_get trees i)) ≡ false) × (ring_mark h.links h.above i ≡ true) × (why ≡ SuperRing)) → Has trees i other → group_of other ≡ 2 → number_of why ≤ number_of other
      by UnknownSuper (inl p) has g = omega (arith, ap number_of p.1)
      by UnknownSuper (inr p) has g = absurd (off-on (has_unknown h.names (supers_of (slice_get trees i))) p.0 (unknown_same ∙ has))
      by SuperRing (inl p) has g = omega (arith, ap number_of p.1)
      by SuperRing (inr p) has g = omega (arith, ap number_of p.2)
      by other p has g = absurd (omega (arith, g))

  super-whole : (other : LinkWhy) → super_reason trees h i ≡ None → Has trees i other → group_of other ≢ 2
  super-whole other e has g = by other (two-none (has_unknown h.names (supers_of (slice_get trees i))) (ring_mark h.links h.above i) e) has g
    where
      by : (other : LinkWhy) → (has_unknown h.names (supers_of (slice_get trees i)) ≡ false) × (ring_mark h.links h.above i ≡ false) → Has trees i other → group_of other ≡ 2 → ⊥
      by UnknownSuper p has g = off-on (has_unknown h.names (supers_of (slice_get trees i))) p.0 (unknown_same ∙ has)
      by SuperRing p has g = ring-not p.1 has
      by other p has g = absurd (omega (arith, g))

pub super-group : (trees : List ClassTree) (h : Hierarchy) → IsHierarchyOf (headers_of trees) h → IsGroup trees 2 (super_reason trees h)
super-group trees h is = record {
  sound = λ i why small e. super-sound trees h is i small why e;
  least = λ i why other small e has g. super-least trees h is i small why other e has g;
  whole = λ i other small e has g. super-whole trees h is i small other e has g;
}

-- where no class is refused for its superclasses, none is in a ring
pub no-ring : (trees : List ClassTree) → NoneBelow trees 3 → (i : ℕ) → i < length trees → ¬ IsInRing (super_links trees) i
no-ring trees none i small ring = let least = none i SuperRing small ring in absurd (omega arith)

-- the first name that is among those before it
get-middle : (seen names : List (List ℕ)) (n : List ℕ) → get_or (seen ++ n ∷ names) (length seen) [] ≡ n
get-middle [] names n = refl
get-middle (x ∷ seen) names n = get-middle seen names n

take-front : (seen names : List (List ℕ)) → take (length seen) (seen ++ names) ≡ seen
take-front [] names = refl
take-front (x ∷ seen) names = ap (λ l. x ∷ l) (take-front seen names)

length-more : (seen : List (List ℕ)) (n : List ℕ) → length (seen ++ n ∷ []) ≡ length seen + 1
length-more [] n = refl
length-more (x ∷ seen) n = let r = length-more seen n in omega (arith, r)

length-middle : (seen names : List (List ℕ)) (n : List ℕ) → length seen < length (seen ++ n ∷ names)
length-middle [] names n = omega arith
length-middle (x ∷ seen) names n = let r = length-middle seen names n in omega (arith, r)

here-repeated : (seen names : List (List ℕ)) (n : List ℕ) → is_repeated (seen ++ n ∷ names) (length seen) ≡ list_any (same_text n) seen
here-repeated seen names n =
    ap (λ m. list_any (same_text m) (take (length seen) (seen ++ n ∷ names))) (get-middle seen names n)
    ∙ ap (list_any (same_text n)) (take-front seen (n ∷ names))

-- from the place on that is reached
abbrev FirstFrom : List (List ℕ) → ℕ → Option ℕ → Type 0
FirstFrom whole from None = (j : ℕ) → from ≤ j → j < length whole → is_repeated whole j ≡ false
FirstFrom whole from (Some k) = (from ≤ k) × (k < length whole) × (is_repeated whole k ≡ true) × ((j : ℕ) → from ≤ j → j < k → is_repeated whole j ≡ false)

further : (whole : List (List ℕ)) (from : ℕ) (o : Option ℕ) → is_repeated whole from ≡ false → FirstFrom whole (from + 1) o → FirstFrom whole from o
further whole from None off rest = λ j low high. by j high (at_or_above from j low)
  where
    at_or_above : (a j : ℕ) → a ≤ j → (a ≡ j) ⊎ (a + 1 ≤ j)
    at_or_above zero zero h = inl refl
    at_or_above zero (suc j) h = inr (omega arith)
    at_or_above (suc a) zero h = absurd (omega arith)
    at_or_above (suc a) (suc j) h = elim (at_or_above a j (omega arith)) [ inl e ↦ inl (ap suc e) | inr m ↦ inr (omega (arith, m)) ]

    by : (j : ℕ) → j < length whole → (from ≡ j) ⊎ (from + 1 ≤ j) → is_repeated whole j ≡ false
    by j high (inl e) = subst (λ k. is_repeated whole k ≡ false) e off
    by j high (inr m) = rest j m high
further whole from (Some k) off rest = (omega (arith, rest.0), rest.1, rest.2, λ j low high. by j high (at_or_above from j low))
  where
    at_or_above : (a j : ℕ) → a ≤ j → (a ≡ j) ⊎ (a + 1 ≤ j)
    at_or_above zero zero h = inl refl
    at_or_above zero (suc j) h = inr (omega arith)
    at_or_above (suc a) zero h = absurd (omega arith)
    at_or_above (suc a) (suc j) h = elim (at_or_above a j (omega arith)) [ inl e ↦ inl (ap suc e) | inr m ↦ inr (omega (arith, m)) ]

    by : (j : ℕ) → j < k → (from ≡ j) ⊎ (from + 1 ≤ j) → is_repeated whole j ≡ false
    by j high (inl e) = subst (λ k. is_repeated whole k ≡ false) e off
    by j high (inr m) = rest.3 j m high

first-from : (names seen : List (List ℕ)) → FirstFrom (seen ++ names) (length seen) (first_repeated (length seen) seen names)
first-from [] seen = λ j low high. let long = ap length (append-nil seen) in absurd (omega (arith, long))
first-from (n ∷ names) seen =
    by (subst (λ w. FirstFrom w (length seen + 1) (first_repeated (length seen + 1) (seen ++ n ∷ []) names)) (append_assoc seen (n ∷ []) names)
    (subst (λ m. FirstFrom (seen ++ n ∷ [] ++ names) m (first_repeated m (seen ++ n ∷ []) names)) (length-more seen n) (first-from names (seen ++ n ∷ []))))
    (list_any (same_text n) seen) refl
  where
    by : FirstFrom (seen ++ n ∷ names) (length seen + 1) (first_repeated (length seen + 1) (seen ++ n ∷ []) names) → (b : Bool) → list_any (same_text n) seen ≡ b
        → FirstFrom (seen ++ n ∷ names) (length seen) (cond b (Some (length seen)) (first_repeated (length seen + 1) (seen ++ n ∷ []) names))
    by rest true e = (omega arith, length-middle seen names n, here-repeated seen names n ∙ e, λ j low high. absurd (omega (arith, low, high)))
    by rest false e = further (seen ++ n ∷ names) (length seen) (first_repeated (length seen + 1) (seen ++ n ∷ []) names) (here-repeated seen names n ∙ e) rest

pub names-first : (trees : List ClassTree) (k : ℕ) → Some k ≡ first_repeated 0 [] (tree_names trees) → IsFirstOf (name_reason (tree_names trees)) (length trees) (Some (k, RepeatedClass))
names-first trees k h =
    let found = subst (FirstFrom (tree_names trees) 0) (sym h) (first-from (tree_names trees) []) in
    (subst (λ n. k < n) (length-names trees) found.1, ap (λ b. cond b (Some RepeatedClass) None) found.2, λ j small. ap (λ b. cond b (Some RepeatedClass) None) (found.3 j (omega arith) small))

pub names-none : (trees : List ClassTree) → None ≡ first_repeated 0 [] (tree_names trees) → IsFirstOf (name_reason (tree_names trees)) (length trees) None
names-none trees h =
    let found = subst (FirstFrom (tree_names trees) 0) (sym h) (first-from (tree_names trees) []) in
    λ j small. ap (λ b. cond b (Some RepeatedClass) None) (found j (omega arith) (subst (λ n. j < n) (sym (length-names trees)) small))

-- the refusal of the first class for its first reason
pub refused-is : (trees : List ClassTree) (i : ℕ) (why : LinkWhy) (e : LinkError) → IsFirstReason trees i why → IsOf trees i why e → IsRefusal trees e
refused-is trees i why error.NoMemory first is = tt
refused-is trees i why (error.BadLink class other) first is = (i, is.0, subst (IsFirstReason trees i) (sym is.1) first)
