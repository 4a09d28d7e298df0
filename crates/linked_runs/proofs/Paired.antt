-- In a linked schema each one side has its other side in each class at or below the one that it names.
use Rattle.std.proofs.Common.{◌≡◌, ◌<◌, ◌+◌, ◌&&◌, ◌||◌, ℕ, zero, suc, Bool, true, false, cond, not, List, [], ◌∷◌, ◌++◌, map, filter_map, length, get_or, slice_get, codes, unwrap_or, Option, None, Some, option_map, ◌⊎◌, inl, inr, ⊎_elim, refl, sym, ap, subst, ◌∙◌, arith}
use Rattle.std.specs.List.{list_any, cons_option, position, position_or_len}
use Rattle.std.specs.Option.{option_and_then}
use Rattle.std.proofs.lemmas.List.{append_assoc}
use Rattle.std.proofs.lemmas.List.Quantifiers.{position-Some}
use Rattle.indexmap.specs.IndexMap.{insert_entry}
use Rattle.obj_kinds.specs.declared.name.ClassName.{ClassName}
use Rattle.obj_kinds.specs.Texts.{same_text}
use Rattle.obj_kinds.proofs.TextLaws.{same_text-is, is-same_text}
use Rattle.schema_kinds.specs.declared.class.Class.{Class}
use Rattle.schema_kinds.specs.declared.class.Sort.{Sort}
use Rattle.schema_kinds.specs.declared.kind.Kind.{Kind}
use Rattle.schema_kinds.specs.declared.kind.Kind.TheVariants as kind
use Rattle.schema_kinds.specs.declared.kind.Item.{Item}
use Rattle.schema_kinds.specs.declared.kind.Item.TheVariants as it
use Rattle.schema_kinds.specs.declared.prop.Prop.{Prop}
use Rattle.schema_kinds.specs.declared.tree.ClassTree.{ClassTree}
use Rattle.schema_kinds.specs.declared.tree.PropTree.{PropTree}
use Rattle.schema_kinds.specs.declared.tree.Form.{Form}
use Rattle.schema_kinds.specs.declared.tree.Form.TheVariants.{Single, List as ListForm, Array, Relation}
use Rattle.schema_kinds.specs.Links.{IsIn, row, IsUp}
use Rattle.schema_kinds.specs.Hierarchy.{place_of, names_of, links_of, firsts_of, top}
use Rattle.schema_kinds.specs.Classes as schemas
use Rattle.schema_kinds.specs.Classes.{IsBelow, class_names, class_of, extent_of, root_at, root_if, is_persistent}
use Rattle.class_facts.specs.declared.spots.Spot.{Spot}
use Rattle.class_facts.specs.declared.members.Members.{Members}
use Rattle.class_facts.specs.Spots.{put_spot, put_spots}
use Rattle.class_facts.specs.Trees.{headers_of, tree_names, super_links, top_of, own_props, prop_spots, inherited_props, members_with, members_of, prop_at, spots_in}
use Rattle.class_facts.specs.Facts.{Facts, sort_in, option_any, is_class_of, props_in}
use Rattle.class_facts.specs.Words.{is_word}
use Rattle.class_facts.proofs.FactLemmas.{length-names}
use Rattle.class_checks.specs.Reasons.{bad_form, bad_type, has_bad_type, is_pair, answers_side, is_answer, lacks_inverse, lacks_other_side, has_no_inverse}
use Rattle.class_extents.specs.Extents.{is_one_side}
use Rattle.class_meaning.specs.Meaning.{single_kind, item_of, side_with, side_kind, kind_by, prop_with, prop_of, class_with}
use Rattle.class_link.specs.declared.error.LinkWhy.{LinkWhy}
use Rattle.class_link.specs.declared.error.LinkWhy.TheVariants.{BadType, NoInverse}
use Rattle.class_link.specs.Refusal as refusal
use Rattle.class_link.specs.Linking.{IsLinked}
use Rattle.storage_map.specs.Entries as entries
use Rattle.world_images.proofs.EntryLaws.{class_named}
use Rattle.object_calls.specs.Extents.{extent_at}
use Rattle.object_calls.specs.Keys.{ManySide, many_side_in, many_sides}
use Rattle.object_runs.specs.Causes.{Has}
use Rattle.sound_runs.specs.Pairs.{HasOtherSide, ArePaired}
use Rattle.linked_storage.specs.Linked.{HasNoWholeType}
use Rattle.linked_storage.proofs.KindLaws.{and_first, and_second, or_first, or_second, turned, none_at}
use Rattle.linked_storage.proofs.EntryLaws.{three}
use Rattle.linked_storage.proofs.MemberLaws.{Pairs, turned_apart, Begins, own_at, next_place}
use Rattle.linked_storage.proofs.ClassLaws.{IsOfExtent, kind_at, props_are, super_small, members_are, not_true, headers-from, long_classes, names_are, class_is, class_there, of_extent, one_place, slice_within}
use Rattle.linked_runs.specs.Laws.{AreApart, HaveNoRepeats, LinkedIsPaired}
use Rattle.linked_names.proofs.Found.{any_has, IsPropOf, prop_held}
use Rattle.linked_names.proofs.Apart.{facts, classes}
use Rattle.linked_names.proofs.Origins.{pair_spot, Pair, IsFromIn, prop_from, IsHeir, heir_itself, heir_up}
use Rattle.linked_runs.proofs.OnSide.{spot_pair, has_begun, small_at, g, any_at, side_stored, heir_from, one_kind, one_tree}

-- ---- what a class declares itself stays among its members

inserted_has : (ys : Pairs) (name : List ℕ) (own : Spot) → Has (name, own) (insert_entry same_text ys name own)
inserted_has [] name own = inl refl
inserted_has (y ∷ ys) name own = by (same_text name y.0) refl (inserted_has ys name own)
  where
    paired : List ℕ → Pair
    paired n = (n, own)

    by : (b : Bool) → same_text name y.0 ≡ b → Has (name, own) (insert_entry same_text ys name own) → Has (name, own) (cond b ((y.0, own) ∷ ys) (y ∷ insert_entry same_text ys name own))
    by true e more = inl (ap paired (same_text-is name y.0 e))
    by false e more = inr more

insert_keeps : (x : Pair) (ys : Pairs) (name : List ℕ) (own : Spot) → Has x ys → same_text name x.0 ≡ false → Has x (insert_entry same_text ys name own)
insert_keeps x [] name own h apart = absurd h
insert_keeps x (y ∷ ys) name own h apart = by (same_text name y.0) refl h (λ k. insert_keeps x ys name own k apart)
  where
    by : (b : Bool) → same_text name y.0 ≡ b → Has x (y ∷ ys) → (Has x ys → Has x (insert_entry same_text ys name own)) → Has x (cond b ((y.0, own) ∷ ys) (y ∷ insert_entry same_text ys name own))
    by true e (inl same) more = absurd (cc (sym e ∙ ap (λ (z : Pair). same_text name z.0) (sym same) ∙ apart))
    by true e (inr k) more = inr k
    by false e (inl same) more = inl same
    by false e (inr k) more = inr (more k)

puts_keep : (x : Pair) (i k : ℕ) (ps : List PropTree) (acc : Pairs) → Has x acc → list_any (λ q. same_text x.0 q.name) ps ≡ false → Has x (put_spots acc (prop_spots i k ps))
puts_keep x i k [] acc h none = h
puts_keep x i k (p ∷ ps) acc h none =
    puts_keep x i (k + 1) ps (put_spot acc (p.name, record { class = i; place = k })) (insert_keeps x acc p.name (record { class = i; place = k }) h (turned_apart x.0 p.name (or_first (same_text x.0 p.name) (list_any (λ q. same_text x.0 q.name) ps) none)))
    (or_second (same_text x.0 p.name) (list_any (λ q. same_text x.0 q.name) ps) none)

own_kept : (x : Pair) (i k : ℕ) (ps : List PropTree) (acc : Pairs) → AreApart ps → Has x (prop_spots i k ps) → Has x (put_spots acc (prop_spots i k ps))
own_kept x i k [] acc apart h = absurd h
own_kept x i k (p ∷ ps) acc apart (inl e) =
    puts_keep x i (k + 1) ps (put_spot acc (p.name, record { class = i; place = k })) (subst (λ (y : Pair). Has y (put_spot acc (p.name, record { class = i; place = k }))) (sym e) (inserted_has acc p.name (record { class = i; place = k })))
    (ap (λ (y : Pair). list_any (λ q. same_text y.0 q.name) ps) e ∙ apart.0)
own_kept x i k (p ∷ ps) acc apart (inr h) = own_kept x i (k + 1) ps (put_spot acc (p.name, record { class = i; place = k })) apart.1 h

apart_at : (ts : List ClassTree) (i : ℕ) (t : ClassTree) → HaveNoRepeats ts → slice_get ts i ≡ Some t → AreApart t.props
apart_at [] i t h at = absurd (cc at)
apart_at (u ∷ us) zero t h at = let same : u ≡ t = cc at in subst (λ (v : ClassTree). AreApart v.props) same h.0
apart_at (u ∷ us) (suc i) t h at = apart_at us i t h.1 at

-- ---- a side by its words

pub record IsOneForm (of : ClassName) (form : Form) (target : ClassName) (inverse : List ℕ) : Type 0 where
  pub word : List ℕ
  pub is : form ≡ Relation (Some word) (Some inverse)
  pub one : same_text word (codes "one") ≡ true
  pub named : of ≡ target

no_one : (i : Item) (target : ClassName) (inverse : List ℕ) → Some (single_kind i) ≡ Some (kind.One target inverse) → ⊥
no_one it.Text t v e = cc e
no_one it.Whole t v e = cc e
no_one it.Truth t v e = cc e
no_one (it.Ref c) t v e = cc e
no_one (it.Serial c) t v e = cc e

one_form : (f : Facts) (of : ClassName) (form : Form) (target : ClassName) (inverse : List ℕ) → kind_by f of form ≡ Some (kind.One target inverse) → IsOneForm of form target inverse
one_form f of Single target inverse h = by (item_of f of) h
  where
    by : (o : Option Item) → option_map single_kind o ≡ Some (kind.One target inverse) → IsOneForm of Single target inverse
    by None e = absurd (cc e)
    by (Some i) e = absurd (no_one i target inverse e)
one_form f of ListForm target inverse h = by (item_of f of) h
  where
    by : (o : Option Item) → option_map kind.ListOf o ≡ Some (kind.One target inverse) → IsOneForm of ListForm target inverse
    by None e = absurd (cc e)
    by (Some i) e = absurd (cc e)
one_form f of Array target inverse h = by (item_of f of) h
  where
    by : (o : Option Item) → option_map kind.ArrayOf o ≡ Some (kind.One target inverse) → IsOneForm of Array target inverse
    by None e = absurd (cc e)
    by (Some i) e = absurd (cc e)
one_form f of (Relation c i) target inverse h = by c i h
  where
    words : (w v : List ℕ) (many one : Bool) → same_text w (codes "one") ≡ one → cond many (Some (kind.Many of v)) (cond one (Some (kind.One of v)) None) ≡ Some (kind.One target inverse) → IsOneForm of (Relation (Some w) (Some v)) target inverse
    words w v true one is e = absurd (cc e)
    words w v false true is e =
        let named : of ≡ target = cc e in
        let turned' : v ≡ inverse = cc e in
        record { word = w; is = ap (λ x. Relation (Some w) (Some x)) turned'; one = is; named = named }
    words w v false false is e = absurd (cc e)

    by : (a b : Option (List ℕ)) → side_kind of a b ≡ Some (kind.One target inverse) → IsOneForm of (Relation a b) target inverse
    by None b e = absurd (cc e)
    by (Some w) None e = absurd (cc e)
    by (Some w) (Some v) e = words w v (same_text w (codes "many")) (same_text w (codes "one")) refl e

pub record IsManyForm (f : Facts) (me : ClassName) (name' : List ℕ) (of' : ClassName) (form' : Form) : Type 0 where
  pub of : of' ≡ me
  pub word : Option (List ℕ)
  pub name : Option (List ℕ)
  pub form : form' ≡ Relation word name
  pub kind : kind_by f of' form' ≡ Some (kind.Many me name')

-- what answers a one side is a many side of the class, by its name
many_form : (f : Facts) (me : ClassName) (name word inverse : List ℕ) (r : PropTree) → same_text word (codes "one") ≡ true → is_answer me name (Some word) (Some inverse) r ≡ true → IsManyForm f me name r.of r.form
many_form f me name word inverse r one h = by r.of r.form (and_second (is_word (Some inverse) r.name) (answers_side me name (Some word) r.of r.form) h)
  where
    one_name : (a b : ClassName) → a.0 ≡ b.0 → a ≡ b
    one_name a b e = λ i. record { 0 = e i }

    no_many : same_text word (codes "many") ≡ false
    no_many = ap (λ w. same_text w (codes "many")) (same_text-is word (codes "one") one)

    of_pair : (o : Option (List ℕ)) → is_pair (Some word) o ≡ true → (w : List ℕ) × (o ≡ Some w) × (same_text w (codes "many") ≡ true)
    of_pair None e = absurd (cc (sym (ap (λ b. (same_text word (codes "one") && false) || (b && false)) no_many ∙ both (same_text word (codes "one"))) ∙ e))
      where
        both : (a : Bool) → ((a && false) || (false && false)) ≡ false
        both true = refl
        both false = refl
    of_pair (Some w) e = (w, refl, test (same_text word (codes "one")) (same_text w (codes "many")) (ap (λ b. (same_text word (codes "one") && same_text w (codes "many")) || (b && same_text w (codes "one"))) (sym no_many) ∙ e))
      where
        test : (a b : Bool) → ((a && b) || (false && same_text w (codes "one"))) ≡ true → b ≡ true
        test true true e = refl
        test true false e = absurd (cc e)
        test false b e = absurd (cc e)

    of_word : (o : Option (List ℕ)) → is_word o name ≡ true → o ≡ Some name
    of_word None e = absurd (cc e)
    of_word (Some w) e = ap Some (same_text-is w name e)

    by : (of : ClassName) (form : Form) → answers_side me name (Some word) of form ≡ true → IsManyForm f me name of form
    by of Single e = absurd (cc e)
    by of ListForm e = absurd (cc e)
    by of Array e = absurd (cc e)
    by of (Relation c i) e =
        let tests = three (same_text of.0 me.0) (is_word i name) (is_pair (Some word) c) e in
        let class : of ≡ me = one_name of me (same_text-is of.0 me.0 tests.0) in
        let w = of_pair c tests.2 in
        let v = of_word i tests.1 in
        record {
          of = class;
          word = c;
          name = i;
          form = refl;
          kind =
              ap (λ x. side_kind x c i) class ∙ ap (λ x. side_kind me x i) w.1 ∙ ap (side_kind me (Some w.0)) v
              ∙ ap (λ b. cond b (Some (kind.Many me name)) (cond (same_text w.0 (codes "one")) (Some (kind.One me name)) None)) w.2;
        }

module _ (trees : List ClassTree) (allowed : (i : ℕ) (why : LinkWhy) → i < length trees → refusal.Has trees i why → ⊥) (none : HasNoWholeType trees) (once : HaveNoRepeats trees) where
  abbrev fs : Facts
  fs = facts trees allowed

  abbrev schema : List Class
  schema = classes trees allowed

  -- ---- the spot of what a class declares

  own_spot : (i : ℕ) (tree : ClassTree) → slice_get trees i ≡ Some tree → (done ps : List PropTree) (k : ℕ) → tree.props ≡ done ++ ps → k ≡ length done → (r : PropTree) → Has r ps → (x : Pair) × Has x (prop_spots i k ps) × (prop_at trees x.1 ≡ Some r) × (x.0 ≡ r.name)
  own_spot i tree there done [] k is at r h = absurd h
  own_spot i tree there done (p ∷ ps) k is at r (inl e) =
      ((p.name, record { class = i; place = k }), inl refl, own_at trees i tree there done p ps k is at ∙ ap Some (sym e), ap (λ (q : PropTree). q.name) (sym e))
  own_spot i tree there done (p ∷ ps) k is at r (inr h) =
      let m = own_spot i tree there (done ++ p ∷ []) ps (k + 1) (is ∙ sym (append_assoc done (p ∷ []) ps)) (next_place trees done p k at) r h in (m.0, inr m.1, m.2, m.3)

  own_member : (i : ℕ) (tree : ClassTree) → i < length trees → slice_get trees i ≡ Some tree → (r : PropTree) → Has r tree.props → (x : Pair) × Has x (members_of trees i).props × (prop_at trees x.1 ≡ Some r)
  own_member i tree small there r h =
      let x = own_spot i tree there [] tree.props 0 refl refl r h in
      let ms = map (λ s. members_of trees s) (row (super_links trees) i) in
      let stays : Has x.0 (put_spots (inherited_props ms) (prop_spots i 0 (own_props (slice_get trees i)))) =
      subst (λ o. Has x.0 (put_spots (inherited_props ms) (prop_spots i 0 (own_props o)))) (sym there) (own_kept x.0 i 0 tree.props (inherited_props ms) (apart_at trees i tree once there) x.1) in
      (x.0, subst (λ (m : Members). Has x.0 m.props) (sym (members_are trees allowed i small)) stays, x.2)

  -- ---- along links

  declared_in : (m : Members → Pairs) (x : Pair) (k i : ℕ) → i < length trees → IsFromIn m trees x k i → (x.1.class < length trees) × Has x (m (members_of trees x.1.class))
  declared_in m x zero i small h = (subst (λ c. c < length trees) (sym h.0) small, subst (λ c. Has x (m (members_of trees c))) (sym h.0) h.1)
  declared_in m x (suc k) i small h = declared_in m x k h.0 (super_small trees allowed i h.0 h.1) h.2

  up_heir : (k i j : ℕ) → i < length trees → IsUp (super_links trees) k i j → is_persistent (sort_in fs j) ≡ true → IsHeir trees allowed j i
  up_heir zero i j small up stored = subst (IsHeir trees allowed j) (sym up) (heir_itself trees allowed j stored)
  up_heir (suc k) i j small up stored = heir_up trees allowed none j i up.0 small up.1 (up_heir k up.0 j (super_small trees allowed i up.0 up.1) up.2 stored)

  place_small : (name : ClassName) (i : ℕ) → place_of fs.names name ≡ Some i → i < length trees
  place_small name i e = let p = position-Some (same_text name.0) fs.names i [] e in subst (λ n. i < n) (length-names trees) p.0

  -- ---- what a class is made of

  prop_there : (s : Spot) (k : Kind) (spots : List Spot) → Has s spots → kind_at trees fs s ≡ Some k → (pr : Prop) × Has pr (filter_map (λ t. option_and_then (prop_of fs) (prop_at trees t)) spots) × (pr.kind ≡ k)
  prop_there s k [] h e = absurd h
  prop_there s k (t ∷ ts) (inl same) e = by (prop_at trees t) (ap (kind_at trees fs) (sym same) ∙ e)
    where
      rest : List Prop
      rest = filter_map (λ u. option_and_then (prop_of fs) (prop_at trees u)) ts

      of_kind : (q : PropTree) (o : Option Kind) → o ≡ Some k → (pr : Prop) × Has pr (cons_option (option_map (prop_with q) o) (filter_map (λ u. option_and_then (prop_of fs) (prop_at trees u)) ts)) × (pr.kind ≡ k)
      of_kind q None f = absurd (cc f)
      of_kind q (Some c) f = (prop_with q c, inl refl, let same' : c ≡ k = cc f in same')

      by : (o : Option PropTree) → option_and_then (λ (q : PropTree). kind_by fs q.of q.form) o ≡ Some k
          → (pr : Prop) × Has pr (cons_option (option_and_then (prop_of fs) o) (filter_map (λ u. option_and_then (prop_of fs) (prop_at trees u)) ts)) × (pr.kind ≡ k)
      by None f = absurd (cc f)
      by (Some q) f = of_kind q (kind_by fs q.of q.form) f
  prop_there s k (t ∷ ts) (inr h) e = by (option_and_then (prop_of fs) (prop_at trees t)) (prop_there s k ts h e)
    where
      by : (o : Option Prop) → (pr : Prop) × Has pr (filter_map (λ u. option_and_then (prop_of fs) (prop_at trees u)) ts) × (pr.kind ≡ k)
          → (pr : Prop) × Has pr (cons_option o (filter_map (λ u. option_and_then (prop_of fs) (prop_at trees u)) ts)) × (pr.kind ≡ k)
      by None r = r
      by (Some c) r = (r.0, inr r.1, r.2)

  mapped : {A B : Type 0} (f : A → Option B) (xs : List A) (x : A) (y : B) → Has x xs → f x ≡ Some y → Has y (filter_map f xs)
  mapped f [] x y h e = absurd h
  mapped f (z ∷ zs) x y (inl same) e = subst (λ o. Has y (cons_option o (filter_map f zs))) (sym (ap f (sym same) ∙ e)) (inl refl)
  mapped {A} {B} f (z ∷ zs) x y (inr h) e = by (f z) (mapped f zs x y h e)
    where
      by : (o : Option B) → Has y (filter_map f zs) → Has y (cons_option o (filter_map f zs))
      by None g' = g'
      by (Some c) g' = inr g'

  -- the tree of a class that declares something
  tree_of : (s : Spot) (q : PropTree) → prop_at trees s ≡ Some q → (t : ClassTree) × (slice_get trees s.class ≡ Some t) × (slice_get t.props s.place ≡ Some q)
  tree_of s q h = by (slice_get trees s.class) refl h
    where
      by : (o : Option ClassTree) → slice_get trees s.class ≡ o → option_and_then (λ (t : ClassTree). slice_get t.props s.place) o ≡ Some q → (t : ClassTree) × (slice_get trees s.class ≡ Some t) × (slice_get t.props s.place ≡ Some q)
      by None e k = absurd (cc k)
      by (Some t) e k = (t, e, k)

  -- a relationship of a class names a persistent one
  names_stored : (i : ℕ) (s : Spot) (q : PropTree) (c v : Option (List ℕ)) → i < length trees → Has s (spots_in (props_in fs i)) → prop_at trees s ≡ Some q → q.form ≡ Relation c v → is_class_of fs is_persistent q.of ≡ true
  names_stored i s q c v small has at form =
      turned (is_class_of fs is_persistent q.of)
      (or_second (not (is_persistent (sort_in fs i))) (not (is_class_of fs is_persistent q.of))
      (ap (bad_form fs (sort_in fs i) q.of) (sym form) ∙ any_at trees allowed (bad_type fs (sort_in fs i)) s q (spots_in (props_in fs i)) (not_true trees allowed (has_bad_type trees fs i (props_in fs i)) (allowed i BadType small)) has at))

  class_place : (name : ClassName) → is_class_of fs is_persistent name ≡ true → (i : ℕ) × (place_of fs.names name ≡ Some i) × (is_persistent (sort_in fs i) ≡ true)
  class_place name h = by (place_of fs.names name) refl h
    where
      by : (o : Option ℕ) → place_of fs.names name ≡ o → option_any (λ j. is_persistent (sort_in fs j)) o ≡ true → (i : ℕ) × (place_of fs.names name ≡ Some i) × (is_persistent (sort_in fs i) ≡ true)
      by None e k = absurd (cc k)
      by (Some i) e k = (i, e, k)

  -- the extent of the class at a place
  extent_here : (name : ClassName) (i : ℕ) (root : Class) (extent : ClassName) → place_of fs.names name ≡ Some i → is_persistent (sort_in fs i) ≡ true → slice_get schema (top_of trees i) ≡ Some root → root.name ≡ extent → extent_of schema name ≡ Some extent
  extent_here name i root extent at stored there named =
      let c = class_there trees allowed i (place_small name i at) in
      let t = class_is trees allowed i c.0 c.1 in
      let sort : is_persistent c.0.sort ≡ true = ap (λ (d : Class). is_persistent d.sort) (sym t.2) ∙ stored in
      let top_is : root_at schema i ≡ Some extent =
      ap (λ n. option_map (λ (d : Class). d.name) (slice_get schema (top n (firsts_of (schemas.headers_of schema)) i))) (long_classes trees fs 0 trees)
      ∙ ap (λ hs. option_map (λ (d : Class). d.name) (slice_get schema (top (length trees) (firsts_of hs) i))) (headers-from trees fs 0 trees)
      ∙ ap (option_map (λ (d : Class). d.name)) there ∙ ap Some named in
      ap (λ ns. option_and_then (λ k. option_and_then (root_if schema k) (slice_get schema k)) (place_of ns name)) (names_are trees allowed)
      ∙ ap (option_and_then (λ k. option_and_then (root_if schema k) (slice_get schema k))) at
      ∙ ap (option_and_then (root_if schema i)) c.1
      ∙ ap (λ b. cond b (root_at schema i) None) sort ∙ top_is

  one_named : (name : ClassName) (i d : ℕ) (t : ClassTree) → place_of fs.names name ≡ Some i → slice_get trees d ≡ Some t → t.name ≡ name → i ≡ d
  one_named name i d t at there named =
      let small = place_small name i at in
      let low = small_at trees d t there in
      let c = class_there trees allowed i small in
      let k = class_there trees allowed d low in
      let u = class_is trees allowed d k.0 k.1 in
      let tree_same : u.0 ≡ t = one_class u.0 t (sym u.1 ∙ there) in
      let k_name : k.0.name ≡ name = ap (λ (x : Class). x.name) (sym u.2) ∙ ap (λ (x : ClassTree). x.name) tree_same ∙ named in
      let p = position-Some (same_text name.0) fs.names i [] at in
      let c_text : c.0.name.0 ≡ name.0 = sym (same_text-is name.0 (get_or fs.names i []) p.1 ∙ ap (λ ns. get_or ns i []) (sym (names_are trees allowed)) ∙ class_named schema i c.0 c.1) in
      one_place trees allowed i d c.0 k.0 small low c.1 k.1 ((λ j. record { 0 = c_text j }) ∙ sym k_name)
    where
      one_class : (a b : ClassTree) → Some a ≡ Some b → a ≡ b
      one_class a b e = cc e

  pub paired : ArePaired schema
  paired class extent p target inverse below in' has is under =
      let pe = of_extent trees allowed class extent in' in
      let t = class_is trees allowed pe.place pe.class pe.there in
      let w = prop_held trees fs p (spots_in (props_in fs pe.place)) (subst (λ (d : Class). Has p d.props) (sym t.2) (subst (λ o. Has p (entries.props_in o)) pe.found has)) in
      let q = w.tree in
      let form = one_form fs q.of q.form target inverse (w.kind ∙ ap Some is) in
      let z = spot_pair w.spot (props_in fs pe.place) w.among in
      let z_has : Has z.0 (members_of trees pe.place).props = subst (λ xs. Has z.0 xs) (props_are trees allowed pe.place pe.small) z.1 in
      let z_at : prop_at trees z.0.1 ≡ Some q = ap (prop_at trees) z.2 ∙ w.at in
      let one : is_one_side q.form ≡ true = ap is_one_side form.is ∙ form.one in
      let from = prop_from trees allowed z.0 pe.place pe.small z_has in
      let d = z.0.1.class in
      let own = declared_in (λ m. m.props) z.0 from.0 pe.place pe.small from.1 in
      let stored = side_stored trees allowed d z.0.1 q own.0 (subst (λ xs. Has z.0.1 (spots_in xs)) (sym (props_are trees allowed d own.0)) (pair_spot z.0 (members_of trees d).props own.1)) z_at one in
      let heir = heir_from trees allowed none (λ m. m.props) z.0 from.0 pe.place pe.small from.1 stored in
      let tree = tree_of z.0.1 q z_at in
      let met : lacks_inverse trees fs tree.0.name q.name q.of q.form ≡ false =
      none_at (λ x. lacks_inverse trees fs tree.0.name x.name x.of x.form) tree.0.props z.0.1.place q
      (ap (option_any (lacks_other_side trees fs)) (sym tree.1) ∙ not_true trees allowed (has_no_inverse trees fs d) (allowed d NoInverse own.0)) tree.2 in
      let i = under.0 in
      let j = under.1 in
      let at_below : place_of fs.names below ≡ Some i = ap (λ ns. place_of ns below) (sym (names_are trees allowed)) ∙ under.2 in
      let at_target : place_of fs.names target ≡ Some j = ap (λ ns. place_of ns target) (sym (names_are trees allowed)) ∙ under.3 in
      let i_small = place_small below i at_below in
      let j_small = place_small target j at_target in
      let other = class_there trees allowed j j_small in
      let other_tree = class_is trees allowed j other.0 other.1 in
      let answered : list_any (is_answer tree.0.name q.name (Some form.word) (Some inverse)) other_tree.0.props ≡ true =
      turned (list_any (is_answer tree.0.name q.name (Some form.word) (Some inverse)) other_tree.0.props)
      (ap (λ o. not (list_any (is_answer tree.0.name q.name (Some form.word) (Some inverse)) (own_props o))) (sym (ap (option_and_then (slice_get trees)) at_target ∙ other_tree.1))
      ∙ ap (λ n. lacks_inverse trees fs tree.0.name q.name n (Relation (Some form.word) (Some inverse))) (sym form.named)
      ∙ ap (lacks_inverse trees fs tree.0.name q.name q.of) (sym form.is) ∙ met) in
      let r = any_has (is_answer tree.0.name q.name (Some form.word) (Some inverse)) other_tree.0.props answered in
      let many = many_form fs tree.0.name q.name form.word inverse r.0 form.one r.2 in
      let x = own_member j other_tree.0 j_small other_tree.1 r.0 r.1 in
      let target_place = class_place q.of (names_stored pe.place w.spot q (Some form.word) (Some inverse) pe.small w.among w.at form.is) in
      let j_same : target_place.0 ≡ j = one_number target_place.0 j (sym target_place.1 ∙ ap (place_of fs.names) form.named ∙ at_target) in
      let j_stored : is_persistent (sort_in fs j) ≡ true = ap (λ n. is_persistent (sort_in fs n)) (sym j_same) ∙ target_place.2 in
      let links : links_of (schemas.headers_of schema) ≡ super_links trees = ap links_of (headers-from trees fs 0 trees) in
      let up = under.4 in
      let heir_below = up_heir up.0 i j i_small (subst (λ l. IsUp l up.0 i j) links up.1) j_stored in
      let y = has_begun (kind_at trees fs) (members_of trees j).props (members_of trees i).props x.0 heir_below.begins x.1 in
      let y_kind : kind_at trees fs y.0.1 ≡ Some (kind.Many tree.0.name q.name) = sym y.3 ∙ ap (option_and_then (λ (u : PropTree). kind_by fs u.of u.form)) x.2 ∙ many.kind in
      let below_class = class_there trees allowed i i_small in
      let below_tree = class_is trees allowed i below_class.0 below_class.1 in
      let pr = prop_there y.0.1 (kind.Many tree.0.name q.name) (spots_in (props_in fs i)) (subst (λ xs. Has y.0.1 (spots_in xs)) (sym (props_are trees allowed i i_small)) (pair_spot y.0 (members_of trees i).props y.1)) y_kind in
      let found : class_of schema below ≡ Some below_class.0 = ap (option_and_then (λ n. slice_get schema n)) under.2 ∙ below_class.1 in
      let side : ManySide = record { class = tree.0.name; side = q.name } in
      let x_spot : Has x.0.1 (spots_in (props_in fs j)) = subst (λ xs. Has x.0.1 (spots_in xs)) (sym (props_are trees allowed j j_small)) (pair_spot x.0 (members_of trees j).props x.1) in
      let declarer = class_place tree.0.name (ap (is_class_of fs is_persistent) (sym many.of) ∙ names_stored j x.0.1 r.0 many.word many.name j_small x_spot x.2 many.form) in
      let declarer_is : declarer.0 ≡ d = one_named tree.0.name declarer.0 d tree.0 declarer.1 tree.1 refl in
      record {
        side = side;
        has =
            subst (λ o. Has side (filter_map (λ u. many_side_in u.kind) (entries.props_in o))) (sym found)
            (subst (λ (c : Class). Has side (filter_map (λ u. many_side_in u.kind) c.props)) below_tree.2
            (mapped (λ (u : Prop). many_side_in u.kind) (filter_map (λ s. option_and_then (prop_of fs) (prop_at trees s)) (spots_in (props_in fs i))) pr.0 side pr.1 (ap many_side_in pr.2)));
        named = w.named;
        members =
            ap (λ o. unwrap_or o tree.0.name)
            (extent_here tree.0.name declarer.0 pe.root extent declarer.1 declarer.2 (ap (λ n. slice_get schema (top_of trees n)) declarer_is ∙ ap (slice_get schema) (sym heir.tops) ∙ pe.root_there) pe.root_named);
      }
    where
      one_number : (a b : ℕ) → Some a ≡ Some b → a ≡ b
      one_number a b e = cc e

pub linked_sides_are_paired : LinkedIsPaired
linked_sides_are_paired trees linked is none once = subst ArePaired (sym is.means) (paired trees is.allowed none once)
