-- In a linked schema the unique indexes of a class have different names: each index is gathered once, and two of one name clash.
use Rattle.std.proofs.Common.{◌≡◌, ◌<◌, ◌+◌, ◌&&◌, ◌||◌, ℕ, zero, suc, Bool, true, false, cond, not, List, [], ◌∷◌, ◌++◌, map, filter_map, filter, fold, length, slice_get, Option, None, Some, option_map, is_some, ◌⊎◌, inl, inr, ⊎_elim, refl, sym, ap, subst, ◌∙◌, arith}
use Rattle.std.specs.List.{list_any, cons_option}
use Rattle.std.specs.Option.{option_and_then}
use Rattle.std.proofs.lemmas.List.{append_assoc}
use Rattle.obj_kinds.specs.declared.name.ClassName.{ClassName}
use Rattle.obj_kinds.specs.Texts.{same_text}
use Rattle.obj_kinds.proofs.TextLaws.{same_text-is, is-same_text}
use Rattle.schema_kinds.specs.declared.class.Class.{Class}
use Rattle.schema_kinds.specs.declared.class.Index.{Index}
use Rattle.schema_kinds.specs.declared.tree.ClassTree.{ClassTree}
use Rattle.schema_kinds.specs.Links.{IsIn, row, climbs, IsUp}
use Rattle.schema_kinds.specs.Classes.{class_of, extent_of}
use Rattle.class_facts.specs.declared.spots.Spot.{Spot}
use Rattle.class_facts.specs.declared.members.Members.{Members}
use Rattle.class_facts.specs.Spots.{spot_of, has_spot_of, fresh_spots, gather_spots}
use Rattle.class_facts.specs.Trees.{super_links, own_indexes, index_spots, inherited_indexes, members_with, members_of, index_at, spots_in}
use Rattle.class_facts.specs.Facts.{Facts, indexes_in, props_in, prop_pairs}
use Rattle.class_extents.specs.declared.entry.Entry.{Entry}
use Rattle.class_extents.specs.Extents.{side_entry, index_entry, entries_in, alone_on, same_mark, same_spot, is_on_side, is_same_index}
use Rattle.class_link.specs.declared.error.LinkWhy.{LinkWhy}
use Rattle.class_link.specs.declared.error.LinkWhy.TheVariants.{SuperRing}
use Rattle.class_link.specs.Refusal as refusal
use Rattle.class_link.specs.Linking.{IsLinked}
use Rattle.storage_map.specs.Entries as entries
use Rattle.object_runs.specs.Causes.{Has}
use Rattle.sound_runs.specs.Taken.{IsNoName, AreNamedApart, HasApartIndexes}
use Rattle.linked_storage.proofs.KindLaws.{or_first, or_second, and_second}
use Rattle.linked_storage.proofs.EntryLaws.{IsHeld, held_last, one_spot}
use Rattle.linked_storage.proofs.MemberLaws.{Pairs, next_place}
use Rattle.linked_storage.proofs.ClassLaws.{members_are, super_small}
use Rattle.linked_names.specs.Laws.{LinkedHasApartIndexes}
use Rattle.linked_names.proofs.Apart.{facts, classes, IsIn as IsOfExtentAt, by_name, fate, index_named, no_true, no_side_on}
use Rattle.linked_names.proofs.Origins.{Pair, OneHas, IsFromIn, has_either, pair_spot, from_indexes, has_filtered, one_has_at, none_climbs, ends_up, own_indexes_at, indexes_are, index_from}

-- a spot is among those of none of the pairs
abbrev IsNoSpot : Spot → Pairs → Type 0
IsNoSpot s xs = (y : Pair) → Has y xs → s ≡ y.1 → ⊥

-- no spot stands twice
abbrev HaveSpotsApart : Pairs → Type 0
HaveSpotsApart [] = Unit {0}
HaveSpotsApart (x ∷ xs) = IsNoSpot x.1 xs × HaveSpotsApart xs

apart_append : (xs ys : Pairs) → HaveSpotsApart xs → HaveSpotsApart ys → ((x y : Pair) → Has x xs → Has y ys → x.1 ≡ y.1 → ⊥) → HaveSpotsApart (xs ++ ys)
apart_append [] ys a b cross = b
apart_append (x ∷ xs) ys a b cross =
    (λ y h e. ⊎_elim (λ k. a.0 y k e) (λ k. cross x y (inl refl) k e) (has_either y xs ys h), apart_append xs ys a.1 b (λ z y h k e. cross z y (inr h) k e))

apart_filtered : (test : Pair → Bool) (xs : Pairs) → HaveSpotsApart xs → HaveSpotsApart (filter test xs)
apart_filtered test [] a = tt
apart_filtered test (x ∷ xs) a = by (test x) (apart_filtered test xs a.1)
  where
    by : (b : Bool) → HaveSpotsApart (filter test xs) → HaveSpotsApart (cond b (x ∷ filter test xs) (filter test xs))
    by true rest = (λ y h e. a.0 y (has_filtered test y xs h) e, rest)
    by false rest = rest

-- a pair that was kept passes the test
passes_filter : (test : Pair → Bool) (x : Pair) (xs : Pairs) → Has x (filter test xs) → test x ≡ true
passes_filter test x [] h = absurd h
passes_filter test x (y ∷ ys) h = by (test y) refl h (passes_filter test x ys)
  where
    by : (b : Bool) → test y ≡ b → Has x (cond b (y ∷ filter test ys) (filter test ys)) → (Has x (filter test ys) → test x ≡ true) → test x ≡ true
    by true e (inl same) more = ap test same ∙ e
    by true e (inr k) more = more k
    by false e k more = more k

-- the name of a pair is found
found_name : (x : Pair) (xs : Pairs) → Has x xs → has_spot_of x.0 xs ≡ true
found_name x [] h = absurd h
found_name x (y ∷ ys) h = by (same_text x.0 y.0) refl h (found_name x ys)
  where
    differs : (a b : List ℕ) → a ≡ b → same_text a b ≡ false → ⊥
    differs a b same g = absurd (cc (sym (is-same_text a b same) ∙ g))

    by : (b : Bool) → same_text x.0 y.0 ≡ b → Has x (y ∷ ys) → (Has x ys → has_spot_of x.0 ys ≡ true) → is_some (cond b (Some y.1) (spot_of x.0 ys)) ≡ true
    by true e k more = refl
    by false e (inl same) more = absurd (differs x.0 y.0 (ap (λ (z : Pair). z.0) same) e)
    by false e (inr k) more = more k

own_places : (x : Pair) (i k : ℕ) (xs : List Index) → Has x (index_spots i k xs) → (n : ℕ) × (x.1.place ≡ k + n)
own_places x i k [] h = absurd h
own_places x i k (y ∷ ys) (inl e) = (0, ap (λ (z : Pair). z.1.place) e ∙ (let z : k ≡ k + 0 = omega arith in z))
own_places x i k (y ∷ ys) (inr h) = let r = own_places x i (k + 1) ys h in (suc r.0, r.1 ∙ (let n = r.0 in let z : k + 1 + n ≡ k + suc n = omega arith in z))

own_apart : (i k : ℕ) (xs : List Index) → HaveSpotsApart (index_spots i k xs)
own_apart i k [] = tt
own_apart i k (x ∷ xs) = (
  λ y h e.
      let r = own_places y i (k + 1) xs h in
      let n = r.0 in
      let same : k ≡ k + 1 + n = ap (λ (s : Spot). s.place) e ∙ r.1 in
      absurd (omega (arith, same)),
  own_apart i (k + 1) xs,
)

module _ (trees : List ClassTree) (allowed : (i : ℕ) (why : LinkWhy) → i < length trees → refusal.Has trees i why → ⊥) where
  abbrev IsNamed : Pair → Type 0
  IsNamed x = (q : Index) × (index_at trees x.1 ≡ Some q) × (q.name ≡ x.0)

  slice_here : (done : List Index) (p : Index) (ps : List Index) → slice_get (done ++ p ∷ ps) (length done) ≡ Some p
  slice_here [] p ps = refl
  slice_here (d ∷ ds) p ps = slice_here ds p ps

  next_index : (done : List Index) (p : Index) (k : ℕ) → k ≡ length done → k + 1 ≡ length (done ++ p ∷ [])
  next_index [] p k at = ap (λ n. n + 1) at
  next_index (d ∷ ds) p zero at = absurd (cc at)
  next_index (d ∷ ds) p (suc k) at = let less : k ≡ length ds = cc at in let e : suc k + 1 ≡ suc (k + 1) = omega arith in e ∙ ap suc (next_index ds p k less)

  own_named : (i : ℕ) (tree : ClassTree) → slice_get trees i ≡ Some tree → (done ps : List Index) (k : ℕ) → tree.indexes ≡ done ++ ps → k ≡ length done → (x : Pair) → Has x (index_spots i k ps) → IsNamed x
  own_named i tree there done [] k is at x h = absurd h
  own_named i tree there done (p ∷ ps) k is at x (inl e) = (
    p,
    ap (λ (y : Pair). index_at trees y.1) e ∙ ap (option_and_then (λ (t : ClassTree). slice_get t.indexes k)) there ∙ ap (λ l. slice_get l k) is ∙ ap (slice_get (done ++ p ∷ ps)) at ∙ slice_here done p ps,
    ap (λ (y : Pair). y.0) (sym e),
  )
  own_named i tree there done (p ∷ ps) k is at x (inr h) = own_named i tree there (done ++ p ∷ []) ps (k + 1) (is ∙ sym (append_assoc done (p ∷ []) ps)) (next_index done p k at) x h

  named_by : (x : Pair) (k i : ℕ) → i < length trees → climbs k (super_links trees) i ≡ false → Has x (members_of trees i).indexes → IsNamed x
  named_by x zero i small none h = absurd (cc none)
  named_by x (suc k) i small none h =
      let ms = map (λ s. members_of trees s) (row (super_links trees) i) in
      let is : Has x (inherited_indexes ms ++ index_spots i 0 (own_indexes (slice_get trees i))) = subst (λ (m : Members). Has x m.indexes) (members_are trees allowed i small) h in
      ⊎_elim
      (λ up. ⊎_elim (λ no_one. absurd no_one) (λ one. let t = one_has_at (λ m. m.indexes) x trees (row (super_links trees) i) one in
      named_by x k t.0 (super_small trees allowed i t.0 t.1) (none_climbs (super_links trees) k t.0 (row (super_links trees) i) none t.1) t.2) (from_indexes x [] ms up))
      (λ own. by (slice_get trees i) refl own)
      (has_either x (inherited_indexes ms) (index_spots i 0 (own_indexes (slice_get trees i))) is)
    where
      by : (o : Option ClassTree) → slice_get trees i ≡ o → Has x (index_spots i 0 (own_indexes o)) → IsNamed x
      by None e own = absurd own
      by (Some tree) e own = own_named i tree e [] tree.indexes 0 refl refl x own

  -- pairs with one spot have one name
  one_name : (x y : Pair) → IsNamed x → IsNamed y → x.1 ≡ y.1 → x.0 ≡ y.0
  one_name x y a b e =
      let same : a.0 ≡ b.0 = one_index a.0 b.0 (sym a.1 ∙ ap (index_at trees) e ∙ b.1) in
      sym a.2 ∙ ap (λ (q : Index). q.name) same ∙ b.2
    where
      one_index : (p q : Index) → Some p ≡ Some q → p ≡ q
      one_index p q h = cc h

  abbrev AllNamed : Pairs → Type 0
  AllNamed xs = (x : Pair) → Has x xs → IsNamed x

  gathered_apart : (acc more : Pairs) → AllNamed acc → AllNamed more → HaveSpotsApart acc → HaveSpotsApart more → HaveSpotsApart (gather_spots acc more)
  gathered_apart acc more named also a b =
      apart_append acc (fresh_spots acc more) a (apart_filtered (λ e. not (has_spot_of e.0 acc)) more b)
      (λ x y h k e.
      let fresh = passes_filter (λ z. not (has_spot_of z.0 acc)) y more k in
      let name = one_name x y (named x h) (also y (has_filtered (λ z. not (has_spot_of z.0 acc)) y more k)) e in
      let found : has_spot_of y.0 acc ≡ true = ap (λ n. has_spot_of n acc) (sym name) ∙ found_name x acc h in
      absurd (cc (sym fresh ∙ ap not found)))

  all_gathered : (acc : Pairs) (ss : List ℕ) → AllNamed acc → HaveSpotsApart acc → ((t : ℕ) → IsIn t ss → AllNamed (members_of trees t).indexes × HaveSpotsApart (members_of trees t).indexes)
      → HaveSpotsApart (fold (λ spots m. gather_spots spots m.indexes) acc (map (λ s. members_of trees s) ss))
  all_gathered acc [] named a each = a
  all_gathered acc (s ∷ ss) named a each =
      let here = each s (inl refl) in
      all_gathered (gather_spots acc (members_of trees s).indexes) ss
      (λ x h. ⊎_elim (λ k. named x k) (λ k. here.0 x (has_filtered (λ z. not (has_spot_of z.0 acc)) x (members_of trees s).indexes k)) (has_either x acc (fresh_spots acc (members_of trees s).indexes) h))
      (gathered_apart acc (members_of trees s).indexes named here.0 a here.1) (λ t into. each t (inr into))

  up_of : (x : Pair) (k i : ℕ) → IsFromIn (λ m. m.indexes) trees x k i → IsUp (super_links trees) k i x.1.class
  up_of x zero i h = sym h.0
  up_of x (suc k) i h = (h.0, h.1, up_of x k h.0 h.2)

  spots_apart_by : (k i : ℕ) → i < length trees → climbs k (super_links trees) i ≡ false → HaveSpotsApart (members_of trees i).indexes
  spots_apart_by zero i small none = absurd (cc none)
  spots_apart_by (suc k) i small none =
      let links = super_links trees in
      let ms = map (λ s. members_of trees s) (row links i) in
      subst (λ (m : Members). HaveSpotsApart m.indexes) (sym (members_are trees allowed i small))
      (apart_append (inherited_indexes ms) (index_spots i 0 (own_indexes (slice_get trees i)))
      (all_gathered [] (row links i) (λ x h. absurd h) tt (λ t into.
      let low = super_small trees allowed i t into in
      (λ x h. named_by x (length trees) t low (ends_up trees allowed t low) h, spots_apart_by k t low (none_climbs links k t (row links i) none into))))
      (own_apart i 0 (own_indexes (slice_get trees i)))
      (λ x y h own e. ⊎_elim (λ no_one. no_one) (λ one.
      let t = one_has_at (λ m. m.indexes) x trees (row links i) one in
      let low = super_small trees allowed i t.0 t.1 in
      let from = index_from trees allowed x t.0 low t.2 in
      let class : x.1.class ≡ i = ap (λ (s : Spot). s.class) e ∙ own_indexes_at y i 0 (own_indexes (slice_get trees i)) own in
      allowed i SuperRing small (t.0, t.1, (from.0, subst (IsUp links from.0 t.0) class (up_of x from.0 t.0 from.1)))) (from_indexes x [] ms h)))

  spots_apart : (i : ℕ) → i < length trees → HaveSpotsApart (members_of trees i).indexes
  spots_apart i small = spots_apart_by (length trees) i small (ends_up trees allowed i small)

  -- ---- names

  abbrev fs : Facts
  fs = facts trees allowed

  held_at : (s : Spot) (x : Index) (spots : List Spot) → Has s spots → index_at trees s ≡ Some x → IsHeld (record { is_side = false; spot = s; on = alone_on (prop_pairs (slice_get fs.members s.class)) x }) (filter_map (index_entry trees fs.members) spots)
  held_at s x [] h at = absurd h
  held_at s x (t ∷ ts) (inl e) at =
      subst (λ (u : Spot). IsHeld (record { is_side = false; spot = s; on = alone_on (prop_pairs (slice_get fs.members s.class)) x }) (cons_option (index_entry trees fs.members u) (filter_map (index_entry trees fs.members) ts))) e
      (subst (λ o. IsHeld (record { is_side = false; spot = s; on = alone_on (prop_pairs (slice_get fs.members s.class)) x })
      (cons_option (option_map (λ y. record { is_side = false; spot = s; on = alone_on (prop_pairs (slice_get fs.members s.class)) y }) o) (filter_map (index_entry trees fs.members) ts))) (sym at) (inl refl))
  held_at s x (t ∷ ts) (inr h) at = by (index_entry trees fs.members t) (held_at s x ts h at)
    where
      by : (o : Option Entry) → IsHeld (record { is_side = false; spot = s; on = alone_on (prop_pairs (slice_get fs.members s.class)) x }) (filter_map (index_entry trees fs.members) ts)
          → IsHeld (record { is_side = false; spot = s; on = alone_on (prop_pairs (slice_get fs.members s.class)) x }) (cons_option o (filter_map (index_entry trees fs.members) ts))
      by None k = k
      by (Some e) k = inr k

  module _ (extent : ClassName) (c : Class) (p : IsOfExtentAt trees allowed extent c) where
    -- indexes at different spots of the class have different names
    names_differ : (s t : Spot) (x y : Index) → Has s (spots_in (indexes_in fs p.place)) → Has t (spots_in (indexes_in fs p.place)) → index_at trees s ≡ Some x → index_at trees t ≡ Some y → (s ≡ t → ⊥) → same_text y.name x.name ≡ false
    names_differ s t x y h k at also apart = by (same_text y.name x.name) refl
      where
        e : Entry
        e = record { is_side = false; spot = s; on = alone_on (prop_pairs (slice_get fs.members s.class)) x }

        u : Entry
        u = record { is_side = false; spot = t; on = alone_on (prop_pairs (slice_get fs.members t.class)) y }

        among : (s : Spot) (x : Index) → Has s (spots_in (indexes_in fs p.place)) → index_at trees s ≡ Some x → IsHeld (record { is_side = false; spot = s; on = alone_on (prop_pairs (slice_get fs.members s.class)) x }) (entries_in trees fs p.place)
        among s x h at = held_last (record { is_side = false; spot = s; on = alone_on (prop_pairs (slice_get fs.members s.class)) x }) (filter_map (side_entry trees) (spots_in (props_in fs p.place))) (filter_map (index_entry trees fs.members) (spots_in (indexes_in fs p.place)))
            (held_at s x (spots_in (indexes_in fs p.place)) h at)

        fated : (is_same_index (record { is_side = false; spot = s; on = alone_on (prop_pairs (slice_get fs.members s.class)) x }) (record { is_side = false; spot = t; on = alone_on (prop_pairs (slice_get fs.members t.class)) y }) ≡ true)
            ⊎ (is_on_side (record { is_side = false; spot = s; on = alone_on (prop_pairs (slice_get fs.members s.class)) x }) (record { is_side = false; spot = t; on = alone_on (prop_pairs (slice_get fs.members t.class)) y }) ≡ true)
            ⊎ (is_on_side (record { is_side = false; spot = t; on = alone_on (prop_pairs (slice_get fs.members t.class)) y }) (record { is_side = false; spot = s; on = alone_on (prop_pairs (slice_get fs.members s.class)) x }) ≡ true) → ⊥
        fated (inl g) = apart (one_spot s t g)
        fated (inr (inl g)) = absurd (cc g)
        fated (inr (inr g)) = absurd (cc g)

        by : (b : Bool) → same_text y.name x.name ≡ b → b ≡ false
        by false g = refl
        by true g = absurd (fated (fate trees allowed extent c c p p
            (record { is_side = false; spot = s; on = alone_on (prop_pairs (slice_get fs.members s.class)) x }) (record { is_side = false; spot = t; on = alone_on (prop_pairs (slice_get fs.members t.class)) y }) x.name
            (among s x h at) (among t y k also)
            (index_named trees allowed (record { is_side = false; spot = s; on = alone_on (prop_pairs (slice_get fs.members s.class)) x }) x refl at)
            (index_named trees allowed (record { is_side = false; spot = t; on = alone_on (prop_pairs (slice_get fs.members t.class)) y }) y refl also ∙ ap Some (same_text-is y.name x.name g))))

    abbrev uniques : Pairs → List Index
    uniques xs = filter (λ i. i.unique) (filter_map (index_at trees) (spots_in xs))

    no_name : (s : Spot) (x : Index) → index_at trees s ≡ Some x → Has s (spots_in (indexes_in fs p.place)) → (ys : Pairs) → ((y : Pair) → Has y ys → Has y (indexes_in fs p.place)) → IsNoSpot s ys → IsNoName x.name (uniques ys)
    no_name s x at h [] within apart = tt
    no_name s x at h (y ∷ ys) within apart = by (index_at trees y.1) refl (no_name s x at h ys (λ z k. within z (inr k)) (λ z k e. apart z (inr k) e))
      where
        of_index : (q : Index) → index_at trees y.1 ≡ Some q → (b : Bool) → IsNoName x.name (filter (λ i. i.unique) (filter_map (index_at trees) (spots_in ys))) → IsNoName x.name (cond b (q ∷ filter (λ i. i.unique) (filter_map (index_at trees) (spots_in ys))) (filter (λ i. i.unique) (filter_map (index_at trees) (spots_in ys))))
        of_index q e true rest = (names_differ s y.1 x q h (pair_spot y (indexes_in fs p.place) (within y (inl refl))) at e (apart y (inl refl)), rest)
        of_index q e false rest = rest

        by : (o : Option Index) → index_at trees y.1 ≡ o → IsNoName x.name (filter (λ i. i.unique) (filter_map (index_at trees) (spots_in ys))) → IsNoName x.name (filter (λ i. i.unique) (cons_option o (filter_map (index_at trees) (spots_in ys))))
        by None e rest = rest
        by (Some q) e rest = of_index q e q.unique rest

    named_apart : (xs : Pairs) → ((y : Pair) → Has y xs → Has y (indexes_in fs p.place)) → HaveSpotsApart xs → AreNamedApart (uniques xs)
    named_apart [] within apart = tt
    named_apart (x ∷ xs) within apart = by (index_at trees x.1) refl (named_apart xs (λ z k. within z (inr k)) apart.1)
      where
        of_index : (q : Index) → index_at trees x.1 ≡ Some q → (b : Bool) → AreNamedApart (filter (λ i. i.unique) (filter_map (index_at trees) (spots_in xs)))
            → AreNamedApart (cond b (q ∷ filter (λ i. i.unique) (filter_map (index_at trees) (spots_in xs))) (filter (λ i. i.unique) (filter_map (index_at trees) (spots_in xs))))
        of_index q e true rest = (no_name x.1 q e (pair_spot x (indexes_in fs p.place) (within x (inl refl))) xs (λ z k. within z (inr k)) apart.0, rest)
        of_index q e false rest = rest

        by : (o : Option Index) → index_at trees x.1 ≡ o → AreNamedApart (filter (λ i. i.unique) (filter_map (index_at trees) (spots_in xs))) → AreNamedApart (filter (λ i. i.unique) (cons_option o (filter_map (index_at trees) (spots_in xs))))
        by None e rest = rest
        by (Some q) e rest = of_index q e q.unique rest

    all_apart : AreNamedApart (filter (λ i. i.unique) c.indexes)
    all_apart = subst (λ (d : Class). AreNamedApart (filter (λ i. i.unique) d.indexes)) p.is
        (named_apart (indexes_in fs p.place) (λ y h. h) (subst HaveSpotsApart (sym (indexes_are trees allowed p.place p.small)) (spots_apart p.place p.small)))

  pub indexes_differ : (class extent : ClassName) → extent_of (classes trees allowed) class ≡ Some extent → HasApartIndexes (classes trees allowed) class
  indexes_differ class extent in' = let c = by_name trees allowed class extent in' in subst (λ o. AreNamedApart (filter (λ i. i.unique) (entries.indexes_of o))) (sym c.1) (all_apart extent c.0 c.2)

pub linked_indexes_differ : LinkedHasApartIndexes
linked_indexes_differ trees linked class extent is in' =
    subst (λ (s : List Class). HasApartIndexes s class) (sym is.means) (indexes_differ trees is.allowed class extent (subst (λ (s : List Class). extent_of s class ≡ Some extent) is.means in'))
