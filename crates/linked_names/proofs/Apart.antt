-- In a linked schema no index or one side of an extent shares its name with a unique index of it.
use Rattle.std.proofs.Common.{◌≡◌, ◌<◌, ◌+◌, ◌&&◌, ◌||◌, ℕ, Bool, true, false, cond, not, nat_eq, List, [], ◌∷◌, ◌++◌, filter_map, length, slice_get, Option, None, Some, option_map, ◌⊎◌, inl, inr, refl, sym, ap, subst, ◌∙◌}
use Rattle.std.specs.List.{list_any}
use Rattle.std.specs.Option.{option_and_then}
use Rattle.std.proofs.lemmas.Bool.{eq-eqb}
use Rattle.obj_kinds.specs.declared.name.ClassName.{ClassName}
use Rattle.obj_kinds.specs.Texts.{same_text}
use Rattle.obj_kinds.proofs.TextLaws.{same_text-is, is-same_text}
use Rattle.schema_kinds.specs.declared.class.Class.{Class}
use Rattle.schema_kinds.specs.declared.class.Index.{Index}
use Rattle.schema_kinds.specs.declared.kind.Kind.TheVariants as kind
use Rattle.schema_kinds.specs.declared.prop.Prop.{Prop}
use Rattle.schema_kinds.specs.declared.tree.ClassTree.{ClassTree}
use Rattle.schema_kinds.specs.declared.tree.PropTree.{PropTree}
use Rattle.schema_kinds.specs.Classes.{class_of, extent_of, is_persistent}
use Rattle.class_facts.specs.declared.spots.Spot.{Spot}
use Rattle.class_facts.specs.Words.{same_word}
use Rattle.class_facts.specs.Trees.{top_of, prop_at, index_at, spots_in}
use Rattle.class_facts.specs.Facts.{Facts, sort_in, option_any, props_in, indexes_in, prop_pairs}
use Rattle.class_extents.specs.declared.entry.Entry.{Entry}
use Rattle.class_extents.specs.Extents.{is_in_extent, side_entry, index_entry, entries_in, same_spot, same_mark, only_on, alone_on, entry_name, is_on_side, is_same_index, clashes, clash_in, subnodes, repeats, has_name_clash}
use Rattle.class_extents.specs.Extents as extents
use Rattle.class_meaning.specs.Meaning.{class_with}
use Rattle.class_link.specs.declared.error.LinkWhy.{LinkWhy}
use Rattle.class_link.specs.declared.error.LinkWhy.TheVariants.{NameClash}
use Rattle.class_link.specs.Refusal as refusal
use Rattle.class_link.specs.Linking.{IsLinked}
use Rattle.record_layout.specs.Layout.{layout_of, layout_on, last_props}
use Rattle.record_layout.specs.Shapes.{forms_of}
use Rattle.storage_map.specs.Markers.{is_extent}
use Rattle.storage_map.specs.Entries as entries
use Rattle.object_runs.specs.Causes.{Has}
use Rattle.object_runs.specs.Invariant.{is_unique_name}
use Rattle.linked_storage.specs.Linked.{HasNoWholeType}
use Rattle.linked_storage.proofs.KindLaws.{and_first, and_second, or_first}
use Rattle.linked_storage.proofs.EntryLaws.{IsHeld, held_first, held_last, extent_held, one_spot, three, none_held}
use Rattle.linked_storage.proofs.ClassLaws.{IsLineTo, IsOfExtent, f, schema, class_is, last_of, line_to, of_extent, top_there, one_place, some_at, slice_within, in_extent, not_true, long_classes}
use Rattle.linked_names.specs.Laws.{LinkedFormsAreOwn, LinkedSidesAreApart, LinkedIndexesAreApart}
use Rattle.linked_names.proofs.Found.{any_has, IsIndexEntry, index_held, IsSideEntry, side_held}

-- one of the tests that let two entries have one name holds
apart_by : (w a b c : Bool) → w ≡ true → (w && not a && not b && not c) ≡ false → (a ≡ true) ⊎ (b ≡ true) ⊎ (c ≡ true)
apart_by true true b c h k = inl refl
apart_by true false true c h k = inr (inl refl)
apart_by true false false true h k = inr (inr refl)
apart_by true false false false h k = absurd (cc k)
apart_by false a b c h k = absurd (cc h)

pub no_true : {A : Type 0} (b : Bool) → b ≡ false → b ≡ true → A
no_true true e g = absurd (cc e)
no_true false e g = absurd (cc g)

-- entries with different marks are of no one index
pub marks_differ : (e g : Entry) → e.is_side ≡ true → g.is_side ≡ false → is_same_index e g ≡ false
marks_differ e g a b = ap (λ x. same_mark x g.is_side && same_spot e.spot g.spot) a ∙ ap (λ x. x && same_spot e.spot g.spot) b

-- no index is a side
pub no_side_on : (e g : Entry) → e.is_side ≡ false → is_on_side e g ≡ false
no_side_on e g a = ap (λ x. x && not g.is_side && option_any (same_spot e.spot) g.on) a

-- what is on nothing alone is on no side
on_none : (e g : Entry) → g.on ≡ None → is_on_side e g ≡ false
on_none e g a = ap (λ o. e.is_side && not g.is_side && option_any (same_spot e.spot) o) a ∙ both e.is_side (not g.is_side)
  where
    both : (a b : Bool) → (a && b && false) ≡ false
    both true true = refl
    both true false = refl
    both false b = refl

unique_on_none : (props : List (List ℕ × Spot)) (x : Index) → x.unique ≡ true → alone_on props x ≡ None
unique_on_none props x u = ap (λ b. cond b None (only_on props x.props)) u

module _ (trees : List ClassTree) (allowed : (i : ℕ) (why : LinkWhy) → i < length trees → refusal.Has trees i why → ⊥) where
  abbrev pub facts : Facts
  facts = f trees allowed

  abbrev pub classes : List Class
  classes = schema trees allowed

  -- a class of an extent, at its place
  pub record IsIn (extent : ClassName) (c : Class) : Type 0 where
    pub place : ℕ
    pub small : place < length trees
    pub tree : ClassTree
    pub is : class_with trees facts place tree ≡ c
    pub stored : is_persistent (sort_in facts place) ≡ true
    pub root : Class
    pub root_there : slice_get classes (top_of trees place) ≡ Some root
    pub root_named : root.name ≡ extent

  pub by_name : (name extent : ClassName) → extent_of classes name ≡ Some extent → (c : Class) × (class_of classes name ≡ Some c) × IsIn extent c
  by_name name extent h =
      let p = of_extent trees allowed name extent h in
      let t = class_is trees allowed p.place p.class p.there in
      (p.class, p.found, record { place = p.place; small = p.small; tree = t.0; is = t.2; stored = p.stored; root = p.root; root_there = p.root_there; root_named = p.root_named })

  pub by_test : (extent : ClassName) (test : Class → Bool) → list_any (λ c. is_extent extent (extent_of classes c.name) && test c) classes ≡ true → (c : Class) × (test c ≡ true) × IsIn extent c
  by_test extent test h =
      let p = some_at trees allowed (λ c. is_extent extent (extent_of classes c.name) && test c) classes h in
      let in' = in_extent trees allowed extent (extent_of classes p.1.name) (and_first (is_extent extent (extent_of classes p.1.name)) (test p.1) p.3) in
      let q = of_extent trees allowed p.1.name extent in' in
      let small = subst (λ l. p.0 < l) (long_classes trees facts 0 trees) (slice_within trees allowed classes p.0 p.1 p.2) in
      let same : q.place ≡ p.0 = one_place trees allowed q.place p.0 q.class p.1 q.small small q.there p.2 q.named in
      let t = class_is trees allowed p.0 p.1 p.2 in (
        p.1,
        and_second (is_extent extent (extent_of classes p.1.name)) (test p.1) p.3,
        record {
          place = p.0;
          small = small;
          tree = t.0;
          is = t.2;
          stored = ap (λ i. is_persistent (sort_in facts i)) (sym same) ∙ q.stored;
          root = q.root;
          root_there = ap (λ i. slice_get classes (top_of trees i)) (sym same) ∙ q.root_there;
          root_named = q.root_named;
        },
      )

  -- two entries of one name in an extent
  pub fate : (extent : ClassName) (c d : Class) (p : IsIn extent c) (q : IsIn extent d) (e g : Entry) (name : List ℕ) → IsHeld e (entries_in trees facts p.place) → IsHeld g (entries_in trees facts q.place)
      → entry_name trees e ≡ Some name → entry_name trees g ≡ Some name → (is_same_index e g ≡ true) ⊎ (is_on_side e g ≡ true) ⊎ (is_on_side g e ≡ true)
  fate extent c d p q e g name first second named also =
      let root = top_of trees p.place in
      let es = entries_in trees facts p.place in
      let ds = extents.extent_of trees facts p.place in
      let top_small = slice_within trees allowed classes root p.root p.root_there in
      let other_small = slice_within trees allowed classes (top_of trees q.place) q.root q.root_there in
      let same : top_of trees q.place ≡ root =
      one_place trees allowed (top_of trees q.place) root q.root p.root (subst (λ l. top_of trees q.place < l) (long_classes trees facts 0 trees) other_small) (subst (λ l. root < l) (long_classes trees facts 0 trees) top_small) q.root_there p.root_there
      (q.root_named ∙ sym p.root_named) in
      let clash : clash_in trees es ds ≡ false =
      or_first (clash_in trees es ds) (repeats [] (subnodes trees facts p.place (props_in facts p.place)))
      (ap (λ b. b && (clash_in trees es ds || repeats [] (subnodes trees facts p.place (props_in facts p.place)))) (sym p.stored)
      ∙ not_true trees allowed (has_name_clash trees facts p.place (props_in facts p.place) (indexes_in facts p.place)) (allowed p.place NameClash p.small)) in
      let in' : is_in_extent facts root q.place ≡ true =
      ap (λ b. b && option_any (λ u. nat_eq u root) (slice_get facts.tops q.place)) q.stored ∙ ap (option_any (λ u. nat_eq u root)) (top_there trees allowed q.place q.small) ∙ eq-eqb (top_of trees q.place) root same in
      let held : IsHeld g ds = subst (λ o. IsHeld g (extents.entries_at trees facts o)) (sym (top_there trees allowed p.place p.small)) (extent_held trees facts root g q.place q.small in' second) in
      let names : same_word (entry_name trees e) (entry_name trees g) ≡ true = ap (λ o. same_word o (entry_name trees g)) named ∙ ap (same_word (Some name)) also ∙ is-same_text name name refl in
      apart_by (same_word (entry_name trees e) (entry_name trees g)) (is_same_index e g) (is_on_side e g) (is_on_side g e) names
      (none_held trees (clashes trees e) g ds (none_held trees (λ x. list_any (clashes trees x) ds) e es clash first) held)

  pub index_named : (e : Entry) (x : Index) → e.is_side ≡ false → index_at trees e.spot ≡ Some x → entry_name trees e ≡ Some x.name
  index_named e x no_side at = ap (λ b. cond b (option_map (λ (p : PropTree). p.name) (prop_at trees e.spot)) (option_map (λ (y : Index). y.name) (index_at trees e.spot))) no_side ∙ ap (option_map (λ (y : Index). y.name)) at

  pub side_named : (e : Entry) (p : PropTree) → e.is_side ≡ true → prop_at trees e.spot ≡ Some p → entry_name trees e ≡ Some p.name
  side_named e p side at = ap (λ b. cond b (option_map (λ (q : PropTree). q.name) (prop_at trees e.spot)) (option_map (λ (y : Index). y.name) (index_at trees e.spot))) side ∙ ap (option_map (λ (q : PropTree). q.name)) at

  -- the entry of an index of a class
  pub index_of : (extent : ClassName) (c : Class) (p : IsIn extent c) (x : Index) → Has x c.indexes → IsIndexEntry trees facts.members x (spots_in (indexes_in facts p.place)) (entries_in trees facts p.place)
  index_of extent c p x h =
      let r = index_held trees facts.members x (spots_in (indexes_in facts p.place)) (subst (λ (d : Class). Has x d.indexes) (sym p.is) h) in
      record {
        entry = r.entry;
        among = r.among;
        held = held_last r.entry (filter_map (side_entry trees) (spots_in (props_in facts p.place))) (filter_map (index_entry trees facts.members) (spots_in (indexes_in facts p.place))) r.held;
        no_side = r.no_side;
        at = r.at;
        on = r.on;
      }

  -- the entry of a one side of a class
  pub side_of : (extent : ClassName) (c : Class) (p : IsIn extent c) (q : Prop) (target : ClassName) (inverse : List ℕ) → q.kind ≡ kind.One target inverse → Has q c.props → IsSideEntry trees facts q (entries_in trees facts p.place)
  side_of extent c p q target inverse is h =
      let r = side_held trees facts q target inverse (spots_in (props_in facts p.place)) is (subst (λ (d : Class). Has q d.props) (sym p.is) h) in
      record {
        entry = r.entry;
        held = held_first r.entry (filter_map (side_entry trees) (spots_in (props_in facts p.place))) (filter_map (index_entry trees facts.members) (spots_in (indexes_in facts p.place))) r.held;
        side = r.side;
        on = r.on;
        tree = r.tree;
        at = r.at;
        named = r.named;
        one = r.one;
        kind = r.kind;
      }

  -- a unique index of that name in the extent
  abbrev has_unique : List ℕ → Class → Bool
  has_unique name c = list_any (λ (i : Index). i.unique && same_text i.name name) c.indexes

  unique_of : (extent : ClassName) (name : List ℕ) → is_unique_name classes extent name ≡ true → (c : Class) × (x : Index) × Has x c.indexes × (x.unique ≡ true) × (x.name ≡ name) × IsIn extent c
  unique_of extent name h =
      let c = by_test extent (has_unique name) h in
      let x = any_has (λ (i : Index). i.unique && same_text i.name name) c.0.indexes c.1 in
      (c.0, x.0, x.1, and_first x.0.unique (same_text x.0.name name) x.2, same_text-is x.0.name name (and_second x.0.unique (same_text x.0.name name) x.2), c.2)

  pub false_by : (b : Bool) → (b ≡ true → ⊥) → b ≡ false
  false_by true h = absurd (h refl)
  false_by false h = refl

  pub sides_apart : (class extent : ClassName) (p : Prop) (target : ClassName) (inverse : List ℕ) → extent_of classes class ≡ Some extent → Has p (entries.props_in (class_of classes class)) → p.kind ≡ kind.One target inverse
      → is_unique_name classes extent p.name ≡ false
  sides_apart class extent p target inverse in' has is = false_by (is_unique_name classes extent p.name) (λ h.
      let c = by_name class extent in' in
      let e = side_of extent c.0 c.2 p target inverse is (subst (λ o. Has p (entries.props_in o)) c.1 has) in
      let u = unique_of extent p.name h in
      let g = index_of extent u.0 u.5 u.1 u.2 in
      by e.entry g.entry e.side g.no_side (g.on ∙ unique_on_none (prop_pairs (slice_get facts.members g.entry.spot.class)) u.1 u.3)
      (fate extent c.0 u.0 c.2 u.5 e.entry g.entry p.name e.held g.held (side_named e.entry e.tree e.side e.at ∙ ap Some e.named) (index_named g.entry u.1 g.no_side g.at ∙ ap Some u.4)))
    where
      by : (e g : Entry) → e.is_side ≡ true → g.is_side ≡ false → g.on ≡ None → (is_same_index e g ≡ true) ⊎ (is_on_side e g ≡ true) ⊎ (is_on_side g e ≡ true) → ⊥
      by e g side no_side on (inl t) = no_true (is_same_index e g) (marks_differ e g side no_side) t
      by e g side no_side on (inr (inl t)) = no_true (is_on_side e g) (on_none e g on) t
      by e g side no_side on (inr (inr t)) = no_true (is_on_side g e) (no_side_on g e no_side) t

  pub indexes_apart : (class extent : ClassName) (i : Index) → extent_of classes class ≡ Some extent → Has i (entries.indexes_of (class_of classes class)) → i.unique ≡ false → is_unique_name classes extent i.name ≡ false
  indexes_apart class extent i in' has plain = false_by (is_unique_name classes extent i.name) (λ h.
      let c = by_name class extent in' in
      let e = index_of extent c.0 c.2 i (subst (λ o. Has i (entries.indexes_of o)) c.1 has) in
      let u = unique_of extent i.name h in
      let g = index_of extent u.0 u.5 u.1 u.2 in
      by e.entry g.entry u.1 e.no_side g.no_side e.at g.at u.3
      (fate extent c.0 u.0 c.2 u.5 e.entry g.entry i.name e.held g.held (index_named e.entry i e.no_side e.at) (index_named g.entry u.1 g.no_side g.at ∙ ap Some u.4)))
    where
      one : (x y : Index) → Some x ≡ Some y → x ≡ y
      one x y h = cc h

      by : (e g : Entry) (x : Index) → e.is_side ≡ false → g.is_side ≡ false → index_at trees e.spot ≡ Some i → index_at trees g.spot ≡ Some x → x.unique ≡ true
          → (is_same_index e g ≡ true) ⊎ (is_on_side e g ≡ true) ⊎ (is_on_side g e ≡ true) → ⊥
      by e g x a b at also u (inl t) =
          let spot = one_spot e.spot g.spot (and_second (same_mark e.is_side g.is_side) (same_spot e.spot g.spot) t) in
          let same : i ≡ x = one i x (sym at ∙ ap (index_at trees) spot ∙ also) in
          no_true i.unique plain (ap (λ (y : Index). y.unique) same ∙ u)
      by e g x a b at also u (inr (inl t)) = no_true (is_on_side e g) (no_side_on e g a) t
      by e g x a b at also u (inr (inr t)) = no_true (is_on_side g e) (no_side_on g e b) t

  pub forms_own : HasNoWholeType trees → (name extent : ClassName) → extent_of classes name ≡ Some extent → (layout_of classes name).forms ≡ forms_of (entries.props_in (class_of classes name))
  unfolding layout_of
  forms_own none name extent h =
      let p = of_extent trees allowed name extent h in
      let to = line_to trees allowed none (length trees) p.place p.class p.small p.there in
      ap (λ l. (layout_on l).forms) (p.line_is ∙ to.is) ∙ of_line to.front p.class ∙ ap (λ o. forms_of (entries.props_in o)) (sym p.found)
    where
      of_line : (front : List Class) (c : Class) → (layout_on (front ++ c ∷ [])).forms ≡ forms_of c.props
      of_line [] c = refl
      of_line (x ∷ xs) c = ap forms_of (last_of trees allowed x xs c)

pub linked_forms_are_own : LinkedFormsAreOwn
linked_forms_are_own trees linked name extent is none h =
    subst (λ (s : List Class). (layout_of s name).forms ≡ forms_of (entries.props_in (class_of s name))) (sym is.means) (forms_own trees is.allowed none name extent (subst (λ (s : List Class). extent_of s name ≡ Some extent) is.means h))

pub linked_sides_are_apart : LinkedSidesAreApart
linked_sides_are_apart trees linked class extent p target inverse is in' has kind =
    subst (λ (s : List Class). is_unique_name s extent p.name ≡ false) (sym is.means)
    (sides_apart trees is.allowed class extent p target inverse (subst (λ (s : List Class). extent_of s class ≡ Some extent) is.means in') (subst (λ (s : List Class). Has p (entries.props_in (class_of s class))) is.means has) kind)

pub linked_indexes_are_apart : LinkedIndexesAreApart
linked_indexes_are_apart trees linked class extent i is in' has plain =
    subst (λ (s : List Class). is_unique_name s extent i.name ≡ false) (sym is.means)
    (indexes_apart trees is.allowed class extent i (subst (λ (s : List Class). extent_of s class ≡ Some extent) is.means in') (subst (λ (s : List Class). Has i (entries.indexes_of (class_of s class))) is.means has) plain)
