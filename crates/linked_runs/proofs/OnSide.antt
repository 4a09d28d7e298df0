-- In a linked schema an index that has the name of a one side of its extent is on that side alone.
use Rattle.std.proofs.Common.{◌≡◌, ◌<◌, ◌+◌, ◌&&◌, ◌||◌, ℕ, zero, suc, Bool, true, false, cond, not, List, [], ◌∷◌, ◌++◌, map, fold, length, slice_get, Option, None, Some, option_map, ◌⊎◌, inl, inr, ⊎_elim, refl, sym, ap, subst, ◌∙◌, arith}
use Rattle.std.specs.List.{list_any}
use Rattle.std.specs.Option.{option_and_then}
use Rattle.std.proofs.lemmas.List.{append_assoc}
use Rattle.obj_kinds.specs.declared.name.ClassName.{ClassName}
use Rattle.obj_kinds.specs.Texts.{same_text}
use Rattle.obj_kinds.proofs.TextLaws.{same_text-is, is-same_text}
use Rattle.schema_kinds.specs.declared.class.Class.{Class}
use Rattle.schema_kinds.specs.declared.class.Index.{Index}
use Rattle.schema_kinds.specs.declared.class.Sort.{Sort}
use Rattle.schema_kinds.specs.declared.kind.Kind.{Kind}
use Rattle.schema_kinds.specs.declared.kind.Kind.TheVariants as kind
use Rattle.schema_kinds.specs.declared.prop.Prop.{Prop}
use Rattle.schema_kinds.specs.declared.tree.ClassTree.{ClassTree}
use Rattle.schema_kinds.specs.declared.tree.PropTree.{PropTree}
use Rattle.schema_kinds.specs.declared.tree.Form.{Form}
use Rattle.schema_kinds.specs.declared.tree.Form.TheVariants.{Single, List as ListForm, Array, Relation}
use Rattle.schema_kinds.specs.Links.{IsIn, row, climbs}
use Rattle.schema_kinds.specs.Classes.{class_of, extent_of, is_persistent}
use Rattle.class_facts.specs.declared.spots.Spot.{Spot}
use Rattle.class_facts.specs.declared.members.Members.{Members}
use Rattle.class_facts.specs.Spots.{spot_of, put_spots}
use Rattle.class_facts.specs.Trees.{super_links, own_props, prop_spots, inherited_props, members_with, members_of, prop_at, index_at, spots_in}
use Rattle.class_facts.specs.Facts.{Facts, sort_in, option_any, is_class_of, props_in, indexes_in, any_prop, prop_pairs, index_pairs}
use Rattle.class_facts.proofs.FactLemmas.{get-count}
use Rattle.class_checks.specs.Reasons.{bad_form, bad_type, has_bad_type}
use Rattle.class_extents.specs.declared.entry.Entry.{Entry}
use Rattle.class_extents.specs.Extents.{is_one_side, same_spot, same_mark, only_on, alone_on, is_on_side, is_same_index}
use Rattle.class_meaning.specs.Meaning.{kind_by}
use Rattle.class_link.specs.declared.error.LinkWhy.{LinkWhy}
use Rattle.class_link.specs.declared.error.LinkWhy.TheVariants.{BadType}
use Rattle.class_link.specs.Refusal as refusal
use Rattle.class_link.specs.Linking.{IsLinked}
use Rattle.storage_map.specs.Entries as entries
use Rattle.storage_map.specs.Worlds.{is_side_named}
use Rattle.object_runs.specs.Causes.{Has}
use Rattle.object_runs.specs.Invariant.{is_side_name}
use Rattle.call_rules.specs.Schemas.{IsOnSide}
use Rattle.linked_storage.specs.Linked.{HasNoWholeType}
use Rattle.linked_storage.proofs.KindLaws.{or_first, or_second}
use Rattle.linked_storage.proofs.EntryLaws.{one_spot, three}
use Rattle.linked_storage.proofs.MemberLaws.{Pairs, AreDistinct, Begins, members_fit, own_at, next_place}
use Rattle.linked_storage.proofs.ClassLaws.{kind_at, props_are, super_small, members_are, not_true}
use Rattle.linked_runs.specs.Laws.{LinkedIndexesAreOnSides}
use Rattle.linked_names.proofs.Found.{any_has, IsIndexEntry, IsSideEntry, IsPropOf, prop_held}
use Rattle.linked_names.proofs.Apart.{facts, classes, IsIn as IsOfExtentAt, by_name, by_test, fate, index_named, side_named, index_of, side_of, no_true, marks_differ, no_side_on}
use Rattle.linked_names.proofs.Origins.{indexes_are, pair_spot, Pair, OneHas, IsFromIn, IsFrom, has_put, from_props, one_has_at, none_climbs, ends_up, index_from, IsHeir, heir_itself, heir_up}

-- ---- pairs

pub spot_pair : (s : Spot) (xs : Pairs) → Has s (spots_in xs) → (x : Pair) × Has x xs × (x.1 ≡ s)
spot_pair s [] h = absurd h
spot_pair s (x ∷ xs) (inl e) = (x, inl refl, sym e)
spot_pair s (x ∷ xs) (inr h) = let r = spot_pair s xs h in (r.0, inr r.1, r.2)

spot_has : (name : List ℕ) (xs : Pairs) (s : Spot) → spot_of name xs ≡ Some s → (x : Pair) × Has x xs × (x.1 ≡ s) × (name ≡ x.0)
spot_has name [] s h = absurd (cc h)
spot_has name (x ∷ xs) s h = by (same_text name x.0) refl h (spot_has name xs s)
  where
    by : (b : Bool) → same_text name x.0 ≡ b → cond b (Some x.1) (spot_of name xs) ≡ Some s → (spot_of name xs ≡ Some s → (y : Pair) × Has y xs × (y.1 ≡ s) × (name ≡ y.0)) → (y : Pair) × Has y (x ∷ xs) × (y.1 ≡ s) × (name ≡ y.0)
    by true e k more = let same : x.1 ≡ s = cc k in (x, inl refl, same, same_text-is name x.0 e)
    by false e k more = let r = more k in (r.0, inr r.1, r.2, r.3)

absent_has : (name : List ℕ) (xs : Pairs) (z : Pair) → spot_of name xs ≡ None → Has z xs → name ≡ z.0 → ⊥
absent_has name [] z none h e = absurd h
absent_has name (x ∷ xs) z none h e = by (same_text name x.0) refl none h (absent_has name xs z)
  where
    differs : (a b : List ℕ) → a ≡ b → same_text a b ≡ false → ⊥
    differs a b same g = absurd (cc (sym (is-same_text a b same) ∙ g))

    by : (b : Bool) → same_text name x.0 ≡ b → cond b (Some x.1) (spot_of name xs) ≡ None → Has z (x ∷ xs) → (spot_of name xs ≡ None → Has z xs → name ≡ z.0 → ⊥) → ⊥
    by true g k w more = absurd (cc k)
    by false g k (inl same) more = differs name x.0 (e ∙ ap (λ (y : Pair). y.0) same) g
    by false g k (inr w) more = more k w e

pub one_of_name : (xs : Pairs) (y z : Pair) → AreDistinct xs → Has y xs → Has z xs → y.0 ≡ z.0 → y ≡ z
one_of_name [] y z d h k e = absurd h
one_of_name (x ∷ xs) y z d (inl a) (inl b) e = a ∙ sym b
one_of_name (x ∷ xs) y z d (inl a) (inr k) e = absurd (absent_has x.0 xs z d.0 k (ap (λ (w : Pair). w.0) (sym a) ∙ e))
one_of_name (x ∷ xs) y z d (inr h) (inl b) e = absurd (absent_has x.0 xs y d.0 h (ap (λ (w : Pair). w.0) (sym b) ∙ sym e))
one_of_name (x ∷ xs) y z d (inr h) (inr k) e = one_of_name xs y z d.1 h k e

-- what is in the pairs of a class is, by its name and with its kind, in those that begin with them
pub has_begun : (k : Spot → Option Kind) (xs ys : Pairs) (x : Pair) → Begins k xs ys → Has x xs → (y : Pair) × Has y ys × (x.0 ≡ y.0) × (k x.1 ≡ k y.1)
has_begun k [] ys x b h = absurd h
has_begun k (z ∷ xs) [] x b h = absurd b
has_begun k (z ∷ xs) (y ∷ ys) x b (inl e) = (y, inl refl, ap (λ (w : Pair). w.0) e ∙ b.0, ap (λ (w : Pair). k w.1) e ∙ b.1)
has_begun k (z ∷ xs) (y ∷ ys) x b (inr h) = let r = has_begun k xs ys x b.2 h in (r.0, inr r.1, r.2, r.3)

pub small_at : {A : Type 0} (xs : List A) (i : ℕ) (x : A) → slice_get xs i ≡ Some x → i < length xs
small_at [] i x h = absurd (cc h)
small_at (y ∷ ys) zero x h = omega arith
small_at (y ∷ ys) (suc i) x h = let less = small_at ys i x h in omega (arith, less)

module _ (trees : List ClassTree) (allowed : (i : ℕ) (why : LinkWhy) → i < length trees → refusal.Has trees i why → ⊥) where
  abbrev pub g : Facts
  g = facts trees allowed

  -- ---- a pair has the name of what it declares

  abbrev IsDeclaredAt : Pair → Type 0
  IsDeclaredAt x = (q : PropTree) × (prop_at trees x.1 ≡ Some q) × (q.name ≡ x.0)

  own_named : (i : ℕ) (tree : ClassTree) → slice_get trees i ≡ Some tree → (done ps : List PropTree) (k : ℕ) → tree.props ≡ done ++ ps → k ≡ length done → (x : Pair) → Has x (prop_spots i k ps) → IsDeclaredAt x
  own_named i tree there done [] k is at x h = absurd h
  own_named i tree there done (p ∷ ps) k is at x (inl e) =
      (p, ap (λ (y : Pair). prop_at trees y.1) e ∙ own_at trees i tree there done p ps k is at, ap (λ (y : Pair). y.0) (sym e))
  own_named i tree there done (p ∷ ps) k is at x (inr h) = own_named i tree there (done ++ p ∷ []) ps (k + 1) (is ∙ sym (append_assoc done (p ∷ []) ps)) (next_place trees done p k at) x h

  named_by : (x : Pair) (k i : ℕ) → i < length trees → climbs k (super_links trees) i ≡ false → Has x (members_of trees i).props → IsDeclaredAt x
  named_by x zero i small none h = absurd (cc none)
  named_by x (suc k) i small none h =
      let ms = map (λ s. members_of trees s) (row (super_links trees) i) in
      let is : Has x (put_spots (inherited_props ms) (prop_spots i 0 (own_props (slice_get trees i)))) = subst (λ (m : Members). Has x m.props) (members_are trees allowed i small) h in
      ⊎_elim
      (λ up. ⊎_elim (λ no_one. absurd no_one) (λ one. let t = one_has_at (λ m. m.props) x trees (row (super_links trees) i) one in
      named_by x k t.0 (super_small trees allowed i t.0 t.1) (none_climbs (super_links trees) k t.0 (row (super_links trees) i) none t.1) t.2) (from_props x [] ms up))
      (λ own. by (slice_get trees i) refl own)
      (has_put x (inherited_props ms) (prop_spots i 0 (own_props (slice_get trees i))) is)
    where
      by : (o : Option ClassTree) → slice_get trees i ≡ o → Has x (prop_spots i 0 (own_props o)) → IsDeclaredAt x
      by None e own = absurd own
      by (Some tree) e own = own_named i tree e [] tree.props 0 refl refl x own

  pub pair_named : (x : Pair) (i : ℕ) → i < length trees → Has x (members_of trees i).props → IsDeclaredAt x
  pair_named x i small h = named_by x (length trees) i small (ends_up trees allowed i small) h

  -- ---- relationships stand in persistent classes

  relation_stored : (sort : Sort) (of : ClassName) (form : Form) → is_one_side form ≡ true → bad_form g sort of form ≡ false → is_persistent sort ≡ true
  relation_stored sort of Single one h = absurd (cc one)
  relation_stored sort of ListForm one h = absurd (cc one)
  relation_stored sort of Array one h = absurd (cc one)
  relation_stored sort of (Relation c i) one h = by (is_persistent sort) refl (or_first (not (is_persistent sort)) (not (is_class_of g is_persistent of)) h)
    where
      by : (b : Bool) → is_persistent sort ≡ b → not b ≡ false → b ≡ true
      by true e n = refl
      by false e n = absurd (cc n)

  pub any_at : (test : PropTree → Bool) (s : Spot) (q : PropTree) (ss : List Spot) → list_any (λ t. option_any test (prop_at trees t)) ss ≡ false → Has s ss → prop_at trees s ≡ Some q → test q ≡ false
  any_at test s q [] h has at = absurd has
  any_at test s q (t ∷ ts) h (inl e) at = sym (ap (λ u. option_any test (prop_at trees u)) (sym e) ∙ ap (option_any test) at) ∙ or_first (option_any test (prop_at trees t)) (list_any (λ u. option_any test (prop_at trees u)) ts) h
  any_at test s q (t ∷ ts) h (inr has) at = any_at test s q ts (or_second (option_any test (prop_at trees t)) (list_any (λ u. option_any test (prop_at trees u)) ts) h) has at

  pub side_stored : (i : ℕ) (s : Spot) (q : PropTree) → i < length trees → Has s (spots_in (props_in g i)) → prop_at trees s ≡ Some q → is_one_side q.form ≡ true → is_persistent (sort_in g i) ≡ true
  side_stored i s q small has at one =
      relation_stored (sort_in g i) q.of q.form one
      (any_at (bad_type g (sort_in g i)) s q (spots_in (props_in g i)) (not_true trees allowed (has_bad_type trees g i (props_in g i)) (allowed i BadType small)) has at)

  pub heir_from : HasNoWholeType trees → (m : Members → Pairs) (x : Pair) (k i : ℕ) → i < length trees → IsFromIn m trees x k i → is_persistent (sort_in g x.1.class) ≡ true → IsHeir trees allowed x.1.class i
  heir_from none m x zero i small h stored = subst (IsHeir trees allowed x.1.class) h.0 (heir_itself trees allowed x.1.class stored)
  heir_from none m x (suc k) i small h stored =
      heir_up trees allowed none x.1.class i h.0 small h.1 (heir_from none m x k h.0 (super_small trees allowed i h.0 h.1) h.2 stored)

  -- ---- what an index is on alone

  on_one : (props : Pairs) (names : List (List ℕ)) (s : Spot) → only_on props names ≡ Some s → (n : List ℕ) × (names ≡ n ∷ []) × (spot_of n props ≡ Some s)
  on_one props [] s h = absurd (cc h)
  on_one props (n ∷ []) s h = (n, refl, h)
  on_one props (n ∷ m ∷ more) s h = absurd (cc h)

  on_some : (o : Option Spot) (s : Spot) → option_any (same_spot s) o ≡ true → o ≡ Some s
  on_some None s h = absurd (cc h)
  on_some (Some t) s h = ap Some (sym (one_spot s t h))

  class_there : (s : Spot) (x : Index) → index_at trees s ≡ Some x → (t : ClassTree) × (slice_get trees s.class ≡ Some t)
  class_there s x h = by (slice_get trees s.class) refl h
    where
      by : (o : Option ClassTree) → slice_get trees s.class ≡ o → option_and_then (λ (t : ClassTree). slice_get t.indexes s.place) o ≡ Some x → (t : ClassTree) × (slice_get trees s.class ≡ Some t)
      by None e k = absurd (cc k)
      by (Some t) e k = (t, e)

  pub one_kind : (a b : Kind) → Some a ≡ Some b → a ≡ b
  one_kind a b e = cc e

  pub one_tree : (a b : PropTree) → Some a ≡ Some b → a ≡ b
  one_tree a b e = cc e

  side_by_test : (name : List ℕ) (p : Prop) (k : Kind) → is_side_named name p k ≡ true → (target : ClassName) × (inverse : List ℕ) × (k ≡ kind.One target inverse) × (p.name ≡ name)
  side_by_test name p (kind.One target inverse) h = (target, inverse, refl, same_text-is p.name name h)
  side_by_test name p _ h = absurd (cc h)

  marks_apart : (a b : Entry) → a.is_side ≡ false → b.is_side ≡ true → is_same_index a b ≡ false
  marks_apart a b e h = ap (λ x. same_mark x b.is_side && same_spot a.spot b.spot) e ∙ ap (λ x. not x && same_spot a.spot b.spot) h

  -- of an index that is on the one side of an entry: the class that declares it has the side, and the class of the index begins with that class
  record IsDeclaredOn (i : Index) (a : ℕ) (s : Spot) (q : PropTree) : Type 0 where
    alone : i.props ≡ q.name ∷ []
    pair : Pair
    has : Has pair (members_of trees a).props
    named : pair.0 ≡ q.name
    same_kind : kind_at trees g s ≡ kind_at trees g pair.1

  declared_on : HasNoWholeType trees → (i : Index) (a : ℕ) → a < length trees → (e : Entry) → Has e.spot (spots_in (indexes_in g a)) → index_at trees e.spot ≡ Some i → only_on (prop_pairs (slice_get g.members e.spot.class)) i.props ≡ e.on
      → (s : Spot) (q : PropTree) → e.on ≡ Some s → prop_at trees s ≡ Some q → is_one_side q.form ≡ true → IsDeclaredOn i a s q
  declared_on none i a small e among at is_on s q on there one =
      let one_name = on_one (prop_pairs (slice_get g.members e.spot.class)) i.props s (is_on ∙ on) in
      let tree = class_there e.spot i at in
      let low = small_at trees e.spot.class tree.0 tree.1 in
      let x = spot_has one_name.0 (members_of trees e.spot.class).props s (ap (spot_of one_name.0) (sym (props_are trees allowed e.spot.class low)) ∙ one_name.2) in
      let d = pair_named x.0 e.spot.class low x.1 in
      let tree_same : d.0 ≡ q = one_tree d.0 q (sym d.1 ∙ ap (prop_at trees) x.2 ∙ there) in
      let name : one_name.0 ≡ q.name = x.3 ∙ sym d.2 ∙ ap (λ (t : PropTree). t.name) tree_same in
      let spots : Has s (spots_in (props_in g e.spot.class)) = subst (λ xs. Has s (spots_in xs)) (sym (props_are trees allowed e.spot.class low)) (subst (λ t. Has t (spots_in (members_of trees e.spot.class).props)) x.2 (pair_spot x.0 (members_of trees e.spot.class).props x.1)) in
      let stored = side_stored e.spot.class s q low spots there one in
      let own = spot_pair e.spot (indexes_in g a) among in
      let from = index_from trees allowed own.0 a small (subst (λ xs. Has own.0 xs) (indexes_are trees allowed a small) own.1) in
      let heir = heir_from none (λ m. m.indexes) own.0 from.0 a small from.1 (ap (λ (t : Spot). is_persistent (sort_in g t.class)) own.2 ∙ stored) in
      let begins = subst (λ (t : Spot). Begins (kind_at trees g) (members_of trees t.class).props (members_of trees a).props) own.2 heir.begins in
      let y = has_begun (kind_at trees g) (members_of trees e.spot.class).props (members_of trees a).props x.0 begins x.1 in
      record {
        alone = one_name.1 ∙ ap (λ n. n ∷ []) name;
        pair = y.0;
        has = y.1;
        named = sym y.2 ∙ sym x.3 ∙ name;
        same_kind = ap (kind_at trees g) (sym x.2) ∙ y.3;
      }

  on_side : HasNoWholeType trees → (class extent : ClassName) (i : Index) → extent_of (classes trees allowed) class ≡ Some extent → Has i (entries.indexes_of (class_of (classes trees allowed) class)) → i.unique ≡ false
      → is_side_name (classes trees allowed) extent i.name ≡ true → IsOnSide (classes trees allowed) class i
  on_side none class extent i in' has plain h =
      let c = by_name trees allowed class extent in' in
      let e = index_of trees allowed extent c.0 c.2 i (subst (λ o. Has i (entries.indexes_of o)) c.1 has) in
      let d = by_test trees allowed extent (λ k. list_any (λ p. is_side_named i.name p p.kind) k.props) h in
      let s = any_has (λ (p : Prop). is_side_named i.name p p.kind) d.0.props d.1 in
      let k = side_by_test i.name s.0 s.0.kind s.2 in
      let u = side_of trees allowed extent d.0 d.2 s.0 k.0 k.1 k.2 s.1 in
      let names : u.tree.name ≡ i.name = u.named ∙ k.3 in
      by c.0 c.1 c.2 e.entry e.among e.at e.on u.entry u.tree u.at u.one names
      (ap (option_and_then (λ (p : PropTree). kind_by g p.of p.form)) u.at ∙ u.kind ∙ ap Some k.2)
      (fated e.entry u.entry e.no_side u.side
      (fate trees allowed extent c.0 d.0 c.2 d.2 e.entry u.entry i.name e.held u.held (index_named trees allowed e.entry i e.no_side e.at) (side_named trees allowed u.entry u.tree u.side u.at ∙ ap Some names)))
    where
      fated : (a b : Entry) → a.is_side ≡ false → b.is_side ≡ true → (is_same_index a b ≡ true) ⊎ (is_on_side a b ≡ true) ⊎ (is_on_side b a ≡ true) → a.on ≡ Some b.spot
      fated a b no_side side (inl t) = no_true (is_same_index a b) (marks_apart a b no_side side) t
      fated a b no_side side (inr (inl t)) = no_true (is_on_side a b) (no_side_on a b no_side) t
      fated a b no_side side (inr (inr t)) = on_some a.on b.spot (three b.is_side (not a.is_side) (option_any (same_spot b.spot) a.on) t).2

      by : (c : Class) → class_of (classes trees allowed) class ≡ Some c → (p : IsOfExtentAt trees allowed extent c) (e : Entry) → Has e.spot (spots_in (indexes_in g p.place)) → index_at trees e.spot ≡ Some i
          → e.on ≡ alone_on (prop_pairs (slice_get g.members e.spot.class)) i → (u : Entry) (q : PropTree) → prop_at trees u.spot ≡ Some q → is_one_side q.form ≡ true → q.name ≡ i.name
          → {target : ClassName} {inverse : List ℕ} → kind_at trees g u.spot ≡ Some (kind.One target inverse) → e.on ≡ Some u.spot → IsOnSide (classes trees allowed) class i
      by c found p e among at on u q there one names {target} {inverse} kinds is_on =
          let only : only_on (prop_pairs (slice_get g.members e.spot.class)) i.props ≡ e.on = ap (λ b. cond b None (only_on (prop_pairs (slice_get g.members e.spot.class)) i.props)) (sym plain) ∙ sym on in
          let r = declared_on none i p.place p.small e among at only u.spot q is_on there one in
          record {
            alone = r.alone ∙ ap (λ n. n ∷ []) names;
            side = λ pr has' same.
                let w = prop_held trees g pr (spots_in (props_in g p.place)) (subst (λ (d : Class). Has pr d.props) (sym p.is) (subst (λ o. Has pr (entries.props_in o)) found has')) in
                let z = spot_pair w.spot (props_in g p.place) w.among in
                let z_has : Has z.0 (members_of trees p.place).props = subst (λ xs. Has z.0 xs) (props_are trees allowed p.place p.small) z.1 in
                let d = pair_named z.0 p.place p.small z_has in
                let tree_same : d.0 ≡ w.tree = one_tree d.0 w.tree (sym d.1 ∙ ap (prop_at trees) z.2 ∙ w.at) in
                let z_named : z.0.0 ≡ i.name = sym d.2 ∙ ap (λ (t : PropTree). t.name) tree_same ∙ w.named ∙ sym (same_text-is i.name pr.name same) in
                let pairs : r.pair ≡ z.0 = one_of_name (members_of trees p.place).props r.pair z.0 (members_fit trees p.place).distinct r.has z_has (r.named ∙ names ∙ sym z_named) in
                let w_kind : kind_at trees g w.spot ≡ Some pr.kind = ap (option_and_then (λ (t : PropTree). kind_by g t.of t.form)) w.at ∙ w.kind in
                (target, inverse, one_kind pr.kind (kind.One target inverse) (sym w_kind ∙ ap (kind_at trees g) (sym z.2) ∙ ap (λ (x : Pair). kind_at trees g x.1) (sym pairs) ∙ sym r.same_kind ∙ kinds));
          }

  pub index_side : HasNoWholeType trees → (class extent : ClassName) (i : Index) → extent_of (classes trees allowed) class ≡ Some extent → Has i (entries.indexes_of (class_of (classes trees allowed) class)) → i.unique ≡ false
      → (is_side_name (classes trees allowed) extent i.name ≡ false) ⊎ IsOnSide (classes trees allowed) class i
  index_side none class extent i in' has plain = by (is_side_name (classes trees allowed) extent i.name) refl
    where
      by : (b : Bool) → is_side_name (classes trees allowed) extent i.name ≡ b → (is_side_name (classes trees allowed) extent i.name ≡ false) ⊎ IsOnSide (classes trees allowed) class i
      by true e = inr (on_side none class extent i in' has plain e)
      by false e = inl e

pub linked_indexes_are_on_sides : LinkedIndexesAreOnSides
linked_indexes_are_on_sides trees linked class extent i is none in' has plain =
    subst (λ (s : List Class). (is_side_name s extent i.name ≡ false) ⊎ IsOnSide s class i) (sym is.means)
    (index_side trees is.allowed none class extent i (subst (λ (s : List Class). extent_of s class ≡ Some extent) is.means in') (subst (λ (s : List Class). Has i (entries.indexes_of (class_of s class))) is.means has) plain)
