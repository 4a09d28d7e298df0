-- Where a member of a class comes from: along links to superclasses, and where persistent classes are concerned along first superclasses alone.
use Rattle.std.proofs.Common.{◌≡◌, ◌≢◌, ◌<◌, ◌+◌, ◌&&◌, ◌||◌, ℕ, zero, suc, Bool, true, false, cond, not, List, [], ◌∷◌, ◌++◌, map, fold, filter, length, get_or, slice_get, Option, None, Some, option_map, option_to_list, is_some, ◌⊎◌, inl, inr, ⊎_elim, refl, sym, ap, subst, ◌∙◌, arith}
use Rattle.std.specs.List.{list_any}
use Rattle.std.specs.Option.{option_and_then}
use Rattle.indexmap.specs.IndexMap.{insert_entry}
use Rattle.obj_kinds.specs.declared.name.ClassName.{ClassName}
use Rattle.obj_kinds.specs.Texts.{same_text}
use Rattle.obj_kinds.proofs.TextLaws.{same_text-is, is-same_text}
use Rattle.schema_kinds.specs.declared.class.Sort.{Sort}
use Rattle.schema_kinds.specs.declared.class.Index.{Index}
use Rattle.schema_kinds.specs.declared.hierarchy.Header.{Header}
use Rattle.schema_kinds.specs.declared.kind.Kind.{Kind}
use Rattle.schema_kinds.specs.declared.tree.ClassTree.{ClassTree}
use Rattle.schema_kinds.specs.declared.tree.PropTree.{PropTree}
use Rattle.schema_kinds.specs.Links.{IsIn, row, climbs}
use Rattle.schema_kinds.specs.Hierarchy.{is_system, place_of, later_places, super_places, first_place, names_of, top_on, top}
use Rattle.schema_kinds.specs.Classes.{is_persistent}
use Rattle.class_facts.specs.declared.spots.Spot.{Spot}
use Rattle.class_facts.specs.declared.members.Members.{Members}
use Rattle.class_facts.specs.Spots.{spot_of, add_spot, add_spots, put_spot, put_spots, has_spot_of, fresh_spots, gather_spots}
use Rattle.class_facts.specs.Trees.{headers_of, super_links, top_of, supers_of, own_props, own_indexes, prop_spots, index_spots, spots_in, inherited_props, inherited_indexes, members_with, members_of, sort_above, sort_of, sort_or_plain}
use Rattle.class_facts.specs.Facts.{Facts, option_any, is_class_of, sort_in, index_pairs, indexes_in, places_of}
use Rattle.class_facts.proofs.FactLemmas.{get-count}
use Rattle.class_checks.specs.Reasons.{has_persistent, has_kind_clash, changes_kind}
use Rattle.class_link.specs.declared.error.LinkWhy.{LinkWhy}
use Rattle.class_link.specs.declared.error.LinkWhy.TheVariants.{SuperRing, KindClash}
use Rattle.class_link.specs.Refusal as refusal
use Rattle.object_runs.specs.Causes.{Has}
use Rattle.linked_storage.specs.Linked.{HasNoWholeType}
use Rattle.linked_storage.proofs.KindLaws.{or_first, or_second}
use Rattle.linked_storage.proofs.MemberLaws.{Pairs, AreDistinct, Begins, members_fit}
use Rattle.linked_storage.proofs.RingLaws.{climbs_no_further}
use Rattle.linked_storage.proofs.ClassLaws.{f, firsts, kind_at, first_link, super_small, members_are, begins_with_first, not_true}

abbrev pub Pair : Type 0
Pair = List ℕ × Spot

-- ---- members that are put together

pub has_either : {A : Type 0} (x : A) (xs ys : List A) → Has x (xs ++ ys) → Has x xs ⊎ Has x ys
has_either x [] ys h = inr h
has_either x (z ∷ xs) ys (inl e) = inl (inl e)
has_either x (z ∷ xs) ys (inr h) = ⊎_elim (λ g. inl (inr g)) (λ g. inr g) (has_either x xs ys h)

has_added : (x : Pair) (acc xs : Pairs) → Has x (add_spots acc xs) → Has x acc ⊎ Has x xs
has_added x acc [] h = inl h
has_added x acc (y ∷ ys) h = ⊎_elim (one (is_some (spot_of y.0 acc))) (λ g. inr (inr g)) (has_added x (add_spot acc y) ys h)
  where
    last : Has x acc ⊎ Has x (y ∷ []) → Has x acc ⊎ Has x (y ∷ ys)
    last (inl g) = inl g
    last (inr (inl e)) = inr (inl e)
    last (inr (inr g)) = absurd g

    one : (b : Bool) → Has x (cond b acc (acc ++ y ∷ [])) → Has x acc ⊎ Has x (y ∷ ys)
    one true g = inl g
    one false g = last (has_either x acc (y ∷ []) g)

has_inserted : (x : Pair) (ys : Pairs) (name : List ℕ) (own : Spot) → Has x (insert_entry same_text ys name own) → Has x ys ⊎ (x ≡ (name, own))
has_inserted x [] name own (inl e) = inr e
has_inserted x [] name own (inr g) = absurd g
has_inserted x (y ∷ ys) name own h = by (same_text name y.0) refl h (has_inserted x ys name own)
  where
    one_pair : List ℕ → Pair
    one_pair n = (n, own)

    by : (b : Bool) → same_text name y.0 ≡ b → Has x (cond b ((y.0, own) ∷ ys) (y ∷ insert_entry same_text ys name own)) → (Has x (insert_entry same_text ys name own) → Has x ys ⊎ (x ≡ (name, own))) → Has x (y ∷ ys) ⊎ (x ≡ (name, own))
    by true e (inl g) more = inr (g ∙ ap (λ (n : List ℕ). one_pair n) (sym (same_text-is name y.0 e)))
    by true e (inr g) more = inl (inr g)
    by false e (inl g) more = inl (inl g)
    by false e (inr g) more = ⊎_elim (λ k. inl (inr k)) (λ k. inr k) (more g)

pub has_put : (x : Pair) (acc own : Pairs) → Has x (put_spots acc own) → Has x acc ⊎ Has x own
has_put x acc [] h = inl h
has_put x acc (o ∷ os) h = ⊎_elim (λ g. one (has_inserted x acc o.0 o.1 g)) (λ g. inr (inr g)) (has_put x (put_spot acc o) os h)
  where
    one : Has x acc ⊎ (x ≡ (o.0, o.1)) → Has x acc ⊎ Has x (o ∷ os)
    one (inl g) = inl g
    one (inr e) = inr (inl e)

pub has_filtered : {A : Type 0} (test : A → Bool) (x : A) (xs : List A) → Has x (filter test xs) → Has x xs
has_filtered test x [] h = absurd h
has_filtered test x (y ∷ ys) h = by (test y) h (has_filtered test x ys)
  where
    by : (b : Bool) → Has x (cond b (y ∷ filter test ys) (filter test ys)) → (Has x (filter test ys) → Has x ys) → Has x (y ∷ ys)
    by true (inl e) more = inl e
    by true (inr g) more = inr (more g)
    by false g more = inr (more g)

-- the spot of a pair is among the spots
pub pair_spot : (x : Pair) (xs : Pairs) → Has x xs → Has x.1 (spots_in xs)
pair_spot x [] h = absurd h
pair_spot x (y ∷ ys) (inl e) = inl (ap (λ (z : Pair). z.1) e)
pair_spot x (y ∷ ys) (inr h) = inr (pair_spot x ys h)

-- one of some members has the pair
abbrev pub OneHas : (Members → Pairs) → Pair → List Members → Type 0
OneHas g x [] = ⊥
OneHas g x (m ∷ ms) = Has x (g m) ⊎ OneHas g x ms

pub from_props : (x : Pair) (acc : Pairs) (ms : List Members) → Has x (fold (λ spots m. add_spots spots m.props) acc ms) → Has x acc ⊎ OneHas (λ m. m.props) x ms
from_props x acc [] h = inl h
from_props x acc (m ∷ ms) h = ⊎_elim (λ g. ⊎_elim (λ k. inl k) (λ k. inr (inl k)) (has_added x acc m.props g)) (λ g. inr (inr g)) (from_props x (add_spots acc m.props) ms h)

pub from_indexes : (x : Pair) (acc : Pairs) (ms : List Members) → Has x (fold (λ spots m. gather_spots spots m.indexes) acc ms) → Has x acc ⊎ OneHas (λ m. m.indexes) x ms
from_indexes x acc [] h = inl h
from_indexes x acc (m ∷ ms) h =
    ⊎_elim (λ g. ⊎_elim (λ k. inl k) (λ k. inr (inl (has_filtered (λ e. not (has_spot_of e.0 acc)) x m.indexes k))) (has_either x acc (fresh_spots acc m.indexes) g)) (λ g. inr (inr g))
    (from_indexes x (gather_spots acc m.indexes) ms h)

own_props_at : (x : Pair) (i k : ℕ) (ps : List PropTree) → Has x (prop_spots i k ps) → x.1.class ≡ i
own_props_at x i k [] h = absurd h
own_props_at x i k (p ∷ ps) (inl e) = ap (λ (y : Pair). y.1.class) e
own_props_at x i k (p ∷ ps) (inr h) = own_props_at x i (k + 1) ps h

pub own_indexes_at : (x : Pair) (i k : ℕ) (xs : List Index) → Has x (index_spots i k xs) → x.1.class ≡ i
own_indexes_at x i k [] h = absurd h
own_indexes_at x i k (p ∷ ps) (inl e) = ap (λ (y : Pair). y.1.class) e
own_indexes_at x i k (p ∷ ps) (inr h) = own_indexes_at x i (k + 1) ps h

pub one_has_at : (g : Members → Pairs) (x : Pair) (trees : List ClassTree) (ss : List ℕ) → OneHas g x (map (λ s. members_of trees s) ss) → (t : ℕ) × IsIn t ss × Has x (g (members_of trees t))
one_has_at g x trees [] h = absurd h
one_has_at g x trees (s ∷ ss) (inl k) = (s, inl refl, k)
one_has_at g x trees (s ∷ ss) (inr k) = let r = one_has_at g x trees ss k in (r.0, inr r.1, r.2)

-- ---- the class that declares a member

-- so many links up, where it is declared, the class has it too
abbrev pub IsFromIn : (Members → Pairs) → List ClassTree → Pair → ℕ → ℕ → Type 0
IsFromIn g trees x zero i = (x.1.class ≡ i) × Has x (g (members_of trees i))
IsFromIn g trees x (suc k) i = (t : ℕ) × IsIn t (row (super_links trees) i) × IsFromIn g trees x k t

abbrev pub IsFrom : (Members → Pairs) → List ClassTree → Pair → ℕ → Type 0
IsFrom g trees x i = (k : ℕ) × IsFromIn g trees x k i

pub none_climbs : (links : List (List ℕ)) (k t : ℕ) (ss : List ℕ) → list_any (λ s. climbs k links s) ss ≡ false → IsIn t ss → climbs k links t ≡ false
none_climbs links k t [] h into = absurd into
none_climbs links k t (s ∷ ss) h (inl e) = ap (climbs k links) e ∙ or_first (climbs k links s) (list_any (λ u. climbs k links u) ss) h
none_climbs links k t (s ∷ ss) h (inr into) = none_climbs links k t ss (or_second (climbs k links s) (list_any (λ u. climbs k links u) ss) h) into

module _ (trees : List ClassTree) (allowed : (i : ℕ) (why : LinkWhy) → i < length trees → refusal.Has trees i why → ⊥) where
  abbrev links : List (List ℕ)
  links = super_links trees

  abbrev facts : Facts
  facts = f trees allowed

  pub ends_up : (i : ℕ) → i < length trees → climbs (length trees) links i ≡ false
  ends_up i small = climbs_no_further links (length trees) (super_small trees allowed) (λ a low ring. allowed a SuperRing low ring) i small

  up_from : (g : Members → Pairs) (x : Pair) (i : ℕ) → (t : ℕ) × IsIn t (row links i) × IsFrom g trees x t → IsFrom g trees x i
  up_from g x i h = let k = h.2 in (suc k.0, (h.0, h.1, k.1))

  prop_from_by : (x : Pair) (k i : ℕ) → i < length trees → climbs k links i ≡ false → Has x (members_of trees i).props → IsFrom (λ m. m.props) trees x i
  prop_from_by x zero i small none h = absurd (cc none)
  prop_from_by x (suc k) i small none h =
      let ms = map (λ s. members_of trees s) (row links i) in
      let is : Has x (put_spots (inherited_props ms) (prop_spots i 0 (own_props (slice_get trees i)))) = subst (λ (m : Members). Has x m.props) (members_are trees allowed i small) h in
      ⊎_elim
      (λ up. ⊎_elim (λ no_one. absurd no_one) (λ one. let t = one_has_at (λ m. m.props) x trees (row links i) one in
      up_from (λ m. m.props) x i (t.0, t.1, prop_from_by x k t.0 (super_small trees allowed i t.0 t.1) (none_climbs links k t.0 (row links i) none t.1) t.2)) (from_props x [] ms up))
      (λ own. (0, (own_props_at x i 0 (own_props (slice_get trees i)) own, h)))
      (has_put x (inherited_props ms) (prop_spots i 0 (own_props (slice_get trees i))) is)

  -- a property of a class is declared by the class, or by one above it, which has it too
  pub prop_from : (x : Pair) (i : ℕ) → i < length trees → Has x (members_of trees i).props → IsFrom (λ m. m.props) trees x i
  prop_from x i small h = prop_from_by x (length trees) i small (ends_up i small) h

  index_from_by : (x : Pair) (k i : ℕ) → i < length trees → climbs k links i ≡ false → Has x (members_of trees i).indexes → IsFrom (λ m. m.indexes) trees x i
  index_from_by x zero i small none h = absurd (cc none)
  index_from_by x (suc k) i small none h =
      let ms = map (λ s. members_of trees s) (row links i) in
      let is : Has x (inherited_indexes ms ++ index_spots i 0 (own_indexes (slice_get trees i))) = subst (λ (m : Members). Has x m.indexes) (members_are trees allowed i small) h in
      ⊎_elim
      (λ up. ⊎_elim (λ no_one. absurd no_one) (λ one. let t = one_has_at (λ m. m.indexes) x trees (row links i) one in
      up_from (λ m. m.indexes) x i (t.0, t.1, index_from_by x k t.0 (super_small trees allowed i t.0 t.1) (none_climbs links k t.0 (row links i) none t.1) t.2)) (from_indexes x [] ms up))
      (λ own. (0, (own_indexes_at x i 0 (own_indexes (slice_get trees i)) own, h)))
      (has_either x (inherited_indexes ms) (index_spots i 0 (own_indexes (slice_get trees i))) is)

  pub index_from : (x : Pair) (i : ℕ) → i < length trees → Has x (members_of trees i).indexes → IsFrom (λ m. m.indexes) trees x i
  index_from x i small h = index_from_by x (length trees) i small (ends_up i small) h

  pub indexes_are : (j : ℕ) → j < length trees → indexes_in facts j ≡ (members_of trees j).indexes
  indexes_are j small = ap index_pairs (get-count (λ i. members_of trees i) 0 (length trees) j small) ∙ (let e : 0 + j ≡ j = omega arith in ap (λ i. (members_of trees i).indexes) e)

  -- ---- persistent classes above

  in_later : (names : List (List ℕ)) (x : ℕ) (ss : List ClassName) → IsIn x (later_places names ss) → (t : ClassName) × Has t ss × (is_system t ≡ false) × (place_of names t ≡ Some x)
  in_later names x [] h = absurd h
  in_later names x (s ∷ ss) h = by (is_system s) refl (place_of names s) refl h (in_later names x ss)
    where
      later : (t : ClassName) × Has t ss × (is_system t ≡ false) × (place_of names t ≡ Some x) → (t : ClassName) × Has t (s ∷ ss) × (is_system t ≡ false) × (place_of names t ≡ Some x)
      later r = (r.0, inr r.1, r.2, r.3)

      by : (b : Bool) → is_system s ≡ b → (o : Option ℕ) → place_of names s ≡ o → IsIn x (cond b [] (option_to_list o) ++ later_places names ss)
          → (IsIn x (later_places names ss) → (t : ClassName) × Has t ss × (is_system t ≡ false) × (place_of names t ≡ Some x)) → (t : ClassName) × Has t (s ∷ ss) × (is_system t ≡ false) × (place_of names t ≡ Some x)
      by true e o g k more = later (more k)
      by false e None g k more = later (more k)
      by false e (Some j) g (inl same) more = (s, inl refl, e, g ∙ ap Some (sym same))
      by false e (Some j) g (inr k) more = later (more k)

  persistent_later : (g : Facts) (t : ClassName) (s : ℕ) (ss : List ClassName) → Has t ss → is_system t ≡ false → place_of g.names t ≡ Some s → is_persistent (sort_in g s) ≡ true → list_any (λ u. not (is_system u) && is_class_of g is_persistent u) ss ≡ true
  persistent_later g t s [] h no_system at stored = absurd h
  persistent_later g t s (u ∷ us) (inl e) no_system at stored =
      let here : (not (is_system t) && is_class_of g is_persistent t) ≡ true = ap (λ b. not b && is_class_of g is_persistent t) no_system ∙ ap (option_any (λ j. is_persistent (sort_in g j))) at ∙ stored in
      ap (λ b. b || list_any (λ v. not (is_system v) && is_class_of g is_persistent v) us) (ap (λ v. not (is_system v) && is_class_of g is_persistent v) (sym e) ∙ here)
  persistent_later g t s (u ∷ us) (inr h) no_system at stored = right (not (is_system u) && is_class_of g is_persistent u) (persistent_later g t s us h no_system at stored)
    where
      right : (a : Bool) → list_any (λ v. not (is_system v) && is_class_of g is_persistent v) us ≡ true → (a || list_any (λ v. not (is_system v) && is_class_of g is_persistent v) us) ≡ true
      right true e = refl
      right false e = e

  -- a persistent superclass is the first one
  by_supers : (g : Facts) (s : ℕ) (supers : List ClassName) → has_persistent g supers ≡ false → is_persistent (sort_in g s) ≡ true → IsIn s (super_places g.names supers) → first_place g.names supers ≡ Some s
  by_supers g s [] none stored h = absurd h
  by_supers g s (c ∷ cs) none stored h = by (place_of g.names c) refl h
    where
      not_later : IsIn s (later_places g.names cs) → ⊥
      not_later k =
          let t = in_later g.names s cs k in
          let there = persistent_later g t.0 s cs t.1 t.2 t.3 stored in
          absurd (cc (sym none ∙ there))

      by : (o : Option ℕ) → place_of g.names c ≡ o → IsIn s (option_to_list o ++ later_places g.names cs) → place_of g.names c ≡ Some s
      by None e k = absurd (not_later k)
      by (Some j) e (inl same) = e ∙ ap Some (sym same)
      by (Some j) e (inr k) = absurd (not_later k)

  at_header : (names : List (List ℕ)) (hs : List Header) (i s : ℕ) → IsIn s (get_or (map (λ h. super_places names h.supers) hs) i []) → (h : Header) × (slice_get hs i ≡ Some h) × IsIn s (super_places names h.supers)
  at_header names [] i s into = absurd into
  at_header names (h ∷ hs) zero s into = (h, refl, into)
  at_header names (h ∷ hs) (suc i) s into = at_header names hs i s into

  firsts_at : (names : List (List ℕ)) (hs : List Header) (i : ℕ) (h : Header) → slice_get hs i ≡ Some h → get_or (map (λ d. first_place names d.supers) hs) i None ≡ first_place names h.supers
  firsts_at names [] i h at = absurd (cc at)
  firsts_at names (d ∷ ds) zero h at = let same : d ≡ h = cc at in ap (λ (e : Header). first_place names e.supers) same
  firsts_at names (d ∷ ds) (suc i) h at = firsts_at names ds i h at

  tree_at : (ts : List ClassTree) (i : ℕ) (h : Header) → slice_get (headers_of ts) i ≡ Some h → (t : ClassTree) × (slice_get ts i ≡ Some t) × (t.supers ≡ h.supers)
  tree_at [] i h at = absurd (cc at)
  tree_at (t ∷ ts) zero h at = let same : record { name = t.name; supers = t.supers } ≡ h = cc at in (t, refl, ap (λ (e : Header). e.supers) same)
  tree_at (t ∷ ts) (suc i) h at = tree_at ts i h at

  pub first_above : (i s : ℕ) → i < length trees → IsIn s (row links i) → is_persistent (sort_in facts s) ≡ true → get_or (firsts trees allowed) i None ≡ Some s
  first_above i s small into stored =
      let h = at_header (names_of (headers_of trees)) (headers_of trees) i s into in
      let t = tree_at trees i h.0 h.1 in
      let none : has_persistent facts h.0.supers ≡ false =
      ap (has_persistent facts) (sym t.2) ∙ ap (λ o. has_persistent facts (supers_of o)) (sym t.1)
      ∙ or_first (has_persistent facts (supers_of (slice_get trees i))) (list_any (changes_kind trees facts (row facts.links i)) (own_props (slice_get trees i))) (not_true trees allowed (has_kind_clash trees facts i) (allowed i KindClash small)) in
      firsts_at (names_of (headers_of trees)) (headers_of trees) i h.0 h.1 ∙ by_supers facts s h.0.supers none stored h.2

  first_in : (i j : ℕ) → get_or (firsts trees allowed) i None ≡ Some j → IsIn j (row links i)
  first_in i j h = let l = first_link (names_of (headers_of trees)) (headers_of trees) i j h in subst (IsIn j) (sym l.1) (inl refl)

  -- enough steps reach the top
  top_stays : (k i : ℕ) → climbs k links i ≡ false → top k (firsts trees allowed) i ≡ top (suc k) (firsts trees allowed) i
  top_stays zero i none = absurd (cc none)
  top_stays (suc k) i none = by (get_or (firsts trees allowed) i None) refl (λ j e. top_stays k j (none_climbs links k j (row links i) none (first_in i j e)))
    where
      by : (o : Option ℕ) → get_or (firsts trees allowed) i None ≡ o → ((j : ℕ) → get_or (firsts trees allowed) i None ≡ Some j → top k (firsts trees allowed) j ≡ top (suc k) (firsts trees allowed) j)
          → top_on (λ j. top k (firsts trees allowed) j) i o ≡ top_on (λ j. top (suc k) (firsts trees allowed) j) i o
      by None e more = refl
      by (Some j) e more = more j e

  top_same_by : (n i j : ℕ) → climbs n links i ≡ false → get_or (firsts trees allowed) i None ≡ Some j → top n (firsts trees allowed) i ≡ top n (firsts trees allowed) j
  top_same_by zero i j none e = absurd (cc none)
  top_same_by (suc n) i j none e = ap (top_on (λ k. top n (firsts trees allowed) k) i) e ∙ top_stays n j (none_climbs links n j (row links i) none (first_in i j e))

  pub top_same : (i j : ℕ) → i < length trees → get_or (firsts trees allowed) i None ≡ Some j → top_of trees i ≡ top_of trees j
  top_same i j small e = top_same_by (length trees) i j (ends_up i small) e

  sort_there : (i : ℕ) → i < length trees → sort_in facts i ≡ sort_of trees i
  sort_there i small = ap sort_or_plain (get-count (λ j. sort_of trees j) 0 (length trees) i small ∙ (let e : 0 + i ≡ i = omega arith in ap (λ j. Some (sort_of trees j)) e))

  begins_on : (k : Spot → Option Kind) (xs ys zs : Pairs) → Begins k xs ys → Begins k ys zs → Begins k xs zs
  begins_on k [] ys zs b c = tt
  begins_on k (x ∷ xs) [] zs b c = absurd b
  begins_on k (x ∷ xs) (y ∷ ys) [] b c = absurd c
  begins_on k (x ∷ xs) (y ∷ ys) (z ∷ zs) b c = (b.0 ∙ c.0, b.1 ∙ c.1, begins_on k xs ys zs b.2 c.2)

  begins_itself : (k : Spot → Option Kind) (xs : Pairs) → Begins k xs xs
  begins_itself k [] = tt
  begins_itself k (x ∷ xs) = (refl, refl, begins_itself k xs)

  -- a class that is at or below a persistent one: it is of the same extent, and begins with the members of that class
  pub record IsHeir (j i : ℕ) : Type 0 where
    pub stored : is_persistent (sort_in facts i) ≡ true
    pub tops : top_of trees i ≡ top_of trees j
    pub begins : Begins (kind_at trees facts) (members_of trees j).props (members_of trees i).props

  pub heir_itself : (i : ℕ) → is_persistent (sort_in facts i) ≡ true → IsHeir i i
  heir_itself i stored = record { stored = stored; tops = refl; begins = begins_itself (kind_at trees facts) (members_of trees i).props }

  pub heir_up : HasNoWholeType trees → (j i t : ℕ) → i < length trees → IsIn t (row links i) → IsHeir j t → IsHeir j i
  heir_up none j i t small into heir =
      let low = super_small trees allowed i t into in
      let first = first_above i t small into heir.stored in
      let tops = top_same i t small first in
      let l = first_link (names_of (headers_of trees)) (headers_of trees) i t first in
      let sorts : sort_of trees i ≡ sort_of trees t = ap (λ u. sort_above (supers_of (slice_get trees u))) tops in
      record {
        stored = ap is_persistent (sort_there i small ∙ sorts ∙ sym (sort_there t low)) ∙ heir.stored;
        tops = tops ∙ heir.tops;
        begins = begins_on (kind_at trees facts) (members_of trees j).props (members_of trees t).props (members_of trees i).props heir.begins (begins_with_first trees allowed none i t l.0 small low l.1);
      }
