-- The classes of a linked schema extend the classes above them, and their names behind an id differ.
use Rattle.std.proofs.Common.{◌≡◌, ◌≢◌, ◌<◌, ◌≤◌, ◌+◌, ◌-◌, ◌&&◌, ◌||◌, ℕ, zero, suc, Bool, true, false, cond, not, nat_eq, List, [], ◌∷◌, ◌++◌, map, filter_map, take, reverse, length, get_or, slice_get, Option, None, Some, option_map, option_to_list, is_some, is_none, codes, append-nil, inl, inr, ◌⊎◌, IsTrue, refl, sym, ap, subst, ◌∙◌, arith}
use Rattle.std.specs.List.{list_any, cons_option}
use Rattle.std.specs.Option.{option_and_then}
use Rattle.std.proofs.lemmas.List.{append_assoc, reverse-append}
use Rattle.std.proofs.lemmas.List.Elements.{filter_map-append}
use Rattle.std.proofs.lemmas.List.Quantifiers.{position-Some}
use Rattle.obj_kinds.specs.declared.name.ClassName.{ClassName}
use Rattle.obj_kinds.specs.Texts.{same_text}
use Rattle.obj_kinds.proofs.TextLaws.{same_text-is, is-same_text}
use Rattle.schema_kinds.specs.declared.class.Class.{Class}
use Rattle.schema_kinds.specs.declared.hierarchy.Header.{Header}
use Rattle.schema_kinds.specs.declared.kind.Item.{Item}
use Rattle.schema_kinds.specs.declared.kind.Item.TheVariants as it
use Rattle.schema_kinds.specs.declared.kind.Kind.{Kind}
use Rattle.schema_kinds.specs.declared.kind.Kind.TheVariants as k
use Rattle.schema_kinds.specs.declared.prop.Prop.{Prop}
use Rattle.schema_kinds.specs.declared.tree.ClassTree.{ClassTree}
use Rattle.schema_kinds.specs.declared.tree.PropTree.{PropTree}
use Rattle.schema_kinds.specs.declared.tree.Form.{Form}
use Rattle.schema_kinds.specs.declared.tree.Form.TheVariants.{Single, List as ListForm, Array, Relation}
use Rattle.schema_kinds.specs.Links.{IsIn, row, IsInRing, IsWithin, AreWithin}
use Rattle.schema_kinds.specs.Hierarchy.{place_of, first_place, super_places, later_places, names_of, firsts_of, links_of, chain, top}
use Rattle.schema_kinds.specs.Classes as classes
use Rattle.schema_kinds.specs.Classes.{class_names, class_of, extent_of, root_at, root_if, short_name, is_persistent}
use Rattle.class_facts.specs.declared.spots.Spot.{Spot}
use Rattle.class_facts.specs.declared.members.Members.{Members}
use Rattle.class_facts.specs.Spots.{spot_of}
use Rattle.class_facts.specs.Trees.{headers_of, supers_of, super_links, top_of, own_props, prop_spots, inherited_props, members_with, members_of, prop_at, spots_in}
use Rattle.class_facts.specs.Facts.{Facts, facts_of, sort_in, option_any, prop_pairs, props_in, indexes_in, any_prop}
use Rattle.class_facts.specs.Types.{data_item}
use Rattle.class_facts.proofs.Gathering.{members-step, length-links, super-within}
use Rattle.class_facts.proofs.FactLemmas.{get-count, length-names}
use Rattle.class_checks.specs.Reasons.{is_whole_type, same_kind, inherited_spot, spot_or, changes_kind, has_persistent, has_kind_clash, has_no_inverse, lacks_other_side, lacks_inverse, is_unknown_type, has_unknown_type}
use Rattle.class_extents.specs.Extents.{short_at, is_array, array_by, array_at, subnodes, repeats, clash_in, entries_in, entries_with, is_in_extent, has_name_clash}
use Rattle.class_extents.specs.Extents as extents
use Rattle.class_meaning.specs.Meaning.{class_item, item_or, single_kind, listed_item, item_of, side_with, side_kind, kind_by, prop_with, prop_of, class_with, classes_from, classes_of}
use Rattle.class_link.specs.declared.error.LinkWhy.TheVariants.{RepeatedClass, SuperRing, KindClash, UnknownType, NoInverse, NameClash}
use Rattle.class_link.specs.declared.error.LinkWhy.{LinkWhy}
use Rattle.class_link.specs.Refusal.{Has}
use Rattle.class_link.specs.Linking.{IsLinked}
use Rattle.record_layout.specs.Shapes.{Form as Stored, single, listed, keyed, form_of}
use Rattle.record_layout.specs.Layout.{line_places, line_of, array_of, arrays_of, last_props}
use Rattle.record_layout.specs.Schemas.{Extends, IsExtendedBy, IsLine, AreAllDifferent, names_behind, IsStorable}
use Rattle.record_layout.proofs.LineLaws.{line_alone, line_under}
use Rattle.storage_map.specs.Markers.{is_extent}
use Rattle.storage_map.specs.Worlds.{has_entries, extent_has}
use Rattle.world_images.specs.Images.{AreEven, IsEvenExtent}
use Rattle.world_images.proofs.EntryLaws.{class_named}
use Rattle.linked_storage.specs.Linked.{HasNoWholeType}
use Rattle.linked_storage.proofs.MemberLaws.{Pairs, AreMembers, IsLonger, Begins, Keeps, first_inherited, declared_at, own_at, next_place, members_fit, begins_longer, begins_puts, kinds_first}
use Rattle.linked_storage.proofs.KindLaws.{and_first, and_second, or_first, or_second, turned, is_side, kind_same, none_at, side_listed}
use Rattle.linked_storage.proofs.NameLaws.{all_differ, turned_differ}
use Rattle.linked_storage.proofs.RingLaws.{climbs_no_further}
use Rattle.linked_storage.proofs.EntryLaws.{IsHeld, IsEntryOf, extent_held, entry_of, even_counts}
use Rattle.std.proofs.lemmas.Bool.{eq-eqb}

-- FIRST SUPERCLASSES

pub first_link : (names : List (List ℕ)) (hs : List Header) (i j : ℕ) → get_or (map (λ h. first_place names h.supers) hs) i None ≡ Some j → (ss : List ℕ) × (get_or (map (λ h. super_places names h.supers) hs) i [] ≡ j ∷ ss)
first_link names [] i j h = cc
first_link names (d ∷ ds) zero j h = by d.supers h
  where
    by : (supers : List ClassName) → first_place names supers ≡ Some j → (ss : List ℕ) × (super_places names supers ≡ j ∷ ss)
    by [] k = cc
    by (s ∷ ss) k = (later_places names ss, ap (λ o. option_to_list o ++ later_places names ss) k)
first_link names (d ∷ ds) (suc i) j h = first_link names ds i j h

pub get_within : {A : Type 0} (xs : List A) (i : ℕ) → i < length xs → (x : A) × (slice_get xs i ≡ Some x)
get_within [] i lt = absurd (omega (arith, lt))
get_within (x ∷ xs) zero lt = (x, refl)
get_within (x ∷ xs) (suc i) lt = get_within xs i (omega (arith, lt))

-- each link of a row is within
row_within : (ss : List ℕ) (n s : ℕ) → IsWithin ss n → IsIn s ss → s < n
row_within [] n s w into = absurd into
row_within (t ∷ ts) n s w (inl same) = subst (λ u. u < n) (sym same) w.0
row_within (t ∷ ts) n s w (inr into) = row_within ts n s w.1 into

at_within : (links : List (List ℕ)) (n a s : ℕ) → AreWithin links n → IsIn s (row links a) → s < n
at_within [] n a s w into = absurd into
at_within (r ∷ rs) n zero s w into = row_within r n s w.0 into
at_within (r ∷ rs) n (suc a) s w into = at_within rs n a s w.1 into

-- CLASSES AND TREES

pub headers-from : (trees : List ClassTree) (f : Facts) (i : ℕ) (rest : List ClassTree) → classes.headers_of (classes_from trees f i rest) ≡ headers_of rest
headers-from trees f i [] = refl
headers-from trees f i (tree ∷ rest) = ap (λ l. record { name = tree.name; supers = tree.supers } ∷ l) (headers-from trees f (i + 1) rest)

class_at : (trees : List ClassTree) (f : Facts) (from : ℕ) (rest : List ClassTree) (i : ℕ) → slice_get (classes_from trees f from rest) i ≡ option_map (λ t. class_with trees f (from + i) t) (slice_get rest i)
class_at trees f from [] i = refl
class_at trees f from (t ∷ ts) zero = let e : from ≡ from + 0 = omega arith in ap (λ n. Some (class_with trees f n t)) e
class_at trees f from (t ∷ ts) (suc i) =
    let e : from + 1 + i ≡ from + suc i = omega arith in
    class_at trees f (from + 1) ts i ∙ ap (λ n. option_map (λ u. class_with trees f n u) (slice_get ts i)) e

pub long_classes : (trees : List ClassTree) (f : Facts) (from : ℕ) (rest : List ClassTree) → length (classes_from trees f from rest) ≡ length rest
long_classes trees f from [] = refl
long_classes trees f from (t ∷ ts) = ap suc (long_classes trees f (from + 1) ts)

short_same : (trees : List ClassTree) (f : Facts) (from : ℕ) (rest : List ClassTree) (i : ℕ) → option_map (λ (c : Class). short_name c.name) (slice_get (classes_from trees f from rest) i) ≡ option_map (λ (t : ClassTree). short_name t.name) (slice_get rest i)
short_same trees f from [] i = refl
short_same trees f from (t ∷ ts) zero = refl
short_same trees f from (t ∷ ts) (suc i) = short_same trees f (from + 1) ts i

-- KINDS OF PROPERTIES

abbrev pub kind_at : List ClassTree → Facts → Spot → Option Kind
kind_at trees f s = option_and_then (λ (p : PropTree). kind_by f p.of p.form) (prop_at trees s)

kinds_of : (trees : List ClassTree) (f : Facts) (spots : List Spot) → map (λ (p : Prop). p.kind) (filter_map (λ s. option_and_then (prop_of f) (prop_at trees s)) spots) ≡ filter_map (kind_at trees f) spots
kinds_of trees f [] = refl
kinds_of trees f (s ∷ ss) = by (prop_at trees s) (kinds_of trees f ss)
  where
    one : (p : PropTree) (o : Option Kind) → map (λ (q : Prop). q.kind) (filter_map (λ t. option_and_then (prop_of f) (prop_at trees t)) ss) ≡ filter_map (kind_at trees f) ss
        → map (λ (q : Prop). q.kind) (cons_option (option_map (prop_with p) o) (filter_map (λ t. option_and_then (prop_of f) (prop_at trees t)) ss)) ≡ cons_option o (filter_map (kind_at trees f) ss)
    one p None h = h
    one p (Some c) h = ap (λ l. c ∷ l) h

    by : (o : Option PropTree) → map (λ (q : Prop). q.kind) (filter_map (λ t. option_and_then (prop_of f) (prop_at trees t)) ss) ≡ filter_map (kind_at trees f) ss
        → map (λ (q : Prop). q.kind) (cons_option (option_and_then (prop_of f) o) (filter_map (λ t. option_and_then (prop_of f) (prop_at trees t)) ss)) ≡ cons_option (option_and_then (λ (p : PropTree). kind_by f p.of p.form) o) (filter_map (kind_at trees f) ss)
    by None h = h
    by (Some p) h = one p (kind_by f p.of p.form) h

map_take : {A B : Type 0} (g : A → B) (n : ℕ) (xs : List A) → map g (take n xs) ≡ take n (map g xs)
map_take g zero xs = refl
map_take g (suc n) [] = refl
map_take g (suc n) (x ∷ xs) = ap (λ l. g x ∷ l) (map_take g n xs)

long_map : {A B : Type 0} (g : A → B) (xs : List A) → length (map g xs) ≡ length xs
long_map g [] = refl
long_map g (x ∷ xs) = ap suc (long_map g xs)

-- WHAT A CLASS HAS OF THE ONE ABOVE IT

module _ (trees : List ClassTree) (allowed : (i : ℕ) (why : LinkWhy) → i < length trees → Has trees i why → ⊥) where
  abbrev pub f : Facts
  f = facts_of trees

  pub not_true : (b : Bool) → (IsTrue b → ⊥) → b ≡ false
  not_true true h = absurd (h refl)
  not_true false h = refl

  pub props_are : (j : ℕ) → j < length trees → props_in f j ≡ (members_of trees j).props
  props_are j small = ap prop_pairs (get-count (λ i. members_of trees i) 0 (length trees) j small) ∙ (let e : 0 + j ≡ j = omega arith in ap (λ i. (members_of trees i).props) e)

  pub super_small : (i s : ℕ) → IsIn s (row (super_links trees) i) → s < length trees
  super_small i s into = subst (λ n. s < n) (length-links trees) (at_within (super_links trees) (length (super_links trees)) i s (super-within trees) into)

  pub members_are : (i : ℕ) → i < length trees → members_of trees i ≡ members_with trees i (map (λ s. members_of trees s) (row (super_links trees) i))
  members_are i small = members-step trees i (climbs_no_further (super_links trees) (length trees) super_small (λ a low ring. allowed a SuperRing low ring) i small)

  -- a property that is declared again has the kind of the inherited one
  own_keeps : HasNoWholeType trees → (i j : ℕ) (ss : List ℕ) (tree : ClassTree) → j < length trees → slice_get trees i ≡ Some tree → (done ps : List PropTree) (at : ℕ) → tree.props ≡ done ++ ps → at ≡ length done
      → list_any (changes_kind trees f (j ∷ ss)) ps ≡ false → list_any (λ p. lacks_inverse trees f tree.name p.name p.of p.form) ps ≡ false → Keeps (kind_at trees f) (members_of trees j).props (prop_spots i at ps)
  own_keeps none i j ss tree small there done [] at is place kinds sides = tt
  own_keeps none i j ss tree small there done (p ∷ ps) at is place kinds sides = (
    λ s found. of_spot s found (prop_at trees s) refl,
    own_keeps none i j ss tree small there (done ++ p ∷ []) ps (at + 1) (is ∙ sym (append_assoc done (p ∷ []) ps)) (next_place trees done p at place)
        (or_second (changes_kind trees f (j ∷ ss) p) (list_any (changes_kind trees f (j ∷ ss)) ps) kinds)
        (or_second (lacks_inverse trees f tree.name p.name p.of p.form) (list_any (λ q. lacks_inverse trees f tree.name q.name q.of q.form) ps) sides),
  )
    where
      none_there : false ≡ true → ⊥
      none_there h = cc

      own : prop_at trees (record { class = i; place = at }) ≡ Some p
      own = own_at trees i tree there done p ps at is place

      side : is_side p.form ≡ true → is_whole_type p.of ≡ false
      side = side_listed trees f refl none tree.name p (or_first (lacks_inverse trees f tree.name p.name p.of p.form) (list_any (λ q. lacks_inverse trees f tree.name q.name q.of q.form) ps) sides)

      of_spot : (s : Spot) → spot_of p.name (members_of trees j).props ≡ Some s → (o : Option PropTree) → prop_at trees s ≡ o → kind_at trees f (record { class = i; place = at }) ≡ kind_at trees f s
      of_spot s found None e = absurd (none_there (ap is_some (sym e) ∙ declared_at trees (members_of trees j).props p.name s (members_fit trees j).declared found))
      of_spot s found (Some q) e =
          let inherited : inherited_spot f p.name (j ∷ ss) ≡ Some s = ap (λ o. spot_or o (inherited_spot f p.name ss)) (ap (spot_of p.name) (props_are j small) ∙ found) in
          let tested : option_any (λ r. not (same_kind p r)) (Some q) ≡ false =
          ap (option_any (λ r. not (same_kind p r))) (sym e ∙ ap (option_and_then (prop_at trees)) (sym inherited)) ∙ or_first (changes_kind trees f (j ∷ ss) p) (list_any (changes_kind trees f (j ∷ ss)) ps) kinds in
          ap (option_and_then (λ (r : PropTree). kind_by f r.of r.form)) own ∙ kind_same f p q (turned (same_kind p q) tested) side ∙ ap (option_and_then (λ (r : PropTree). kind_by f r.of r.form)) (sym e)

  pub begins_with_first : HasNoWholeType trees → (i j : ℕ) (ss : List ℕ) → i < length trees → j < length trees → row (super_links trees) i ≡ j ∷ ss → Begins (kind_at trees f) (members_of trees j).props (members_of trees i).props
  begins_with_first none i j ss small low links =
      subst (λ m. Begins (kind_at trees f) (members_of trees j).props m) (sym (ap (λ (m : Members). m.props) (members_are i small ∙ ap (λ l. members_with trees i (map (λ s. members_of trees s) l)) links)))
      (begins_puts (kind_at trees f) (members_of trees j).props (inherited_props (members_of trees j ∷ map (λ s. members_of trees s) ss)) (prop_spots i 0 (own_props (slice_get trees i))) begun (kept (slice_get trees i) refl))
    where
      begun : Begins (kind_at trees f) (members_of trees j).props (inherited_props (members_of trees j ∷ map (λ s. members_of trees s) ss))
      begun = let p = first_inherited (members_of trees j) (map (λ s. members_of trees s) ss) (members_fit trees j).distinct in subst (Begins (kind_at trees f) (members_of trees j).props) (sym p.is) (begins_longer (kind_at trees f) (members_of trees j).props p.more)

      kinds : list_any (changes_kind trees f (j ∷ ss)) (own_props (slice_get trees i)) ≡ false
      kinds =
          ap (λ l. list_any (changes_kind trees f l) (own_props (slice_get trees i))) (sym links)
          ∙ or_second (has_persistent f (supers_of (slice_get trees i))) (list_any (changes_kind trees f (row f.links i)) (own_props (slice_get trees i))) (not_true (has_kind_clash trees f i) (allowed i KindClash small))

      kept : (o : Option ClassTree) → slice_get trees i ≡ o → Keeps (kind_at trees f) (members_of trees j).props (prop_spots i 0 (own_props o))
      kept None e = tt
      kept (Some tree) e =
          own_keeps none i j ss tree low e [] tree.props 0 refl refl
          (ap (λ o. list_any (changes_kind trees f (j ∷ ss)) (own_props o)) (sym e) ∙ kinds)
          (ap (option_any (lacks_other_side trees f)) (sym e) ∙ not_true (has_no_inverse trees f i) (allowed i NoInverse small))

  abbrev pub schema : List Class
  schema = classes_of trees f

  pub class_is : (i : ℕ) (c : Class) → slice_get schema i ≡ Some c → (t : ClassTree) × (slice_get trees i ≡ Some t) × (class_with trees f i t ≡ c)
  class_is i c h = by (slice_get trees i) refl
    where
      by : (o : Option ClassTree) → slice_get trees i ≡ o → (t : ClassTree) × (slice_get trees i ≡ Some t) × (class_with trees f i t ≡ c)
      by None e = let no : None ≡ Some c = sym (class_at trees f 0 trees i ∙ ap (option_map (λ t. class_with trees f (0 + i) t)) e) ∙ h in cc
      by (Some t) e =
          let one : Some (class_with trees f (0 + i) t) ≡ Some c = sym (class_at trees f 0 trees i ∙ ap (option_map (λ u. class_with trees f (0 + i) u)) e) ∙ h in
          let same : class_with trees f (0 + i) t ≡ c = cc in
          (t, e, (let z : i ≡ 0 + i = omega arith in ap (λ n. class_with trees f n t) z) ∙ same)

  props_kinds : (i : ℕ) (c : Class) → i < length trees → slice_get schema i ≡ Some c → map (λ (p : Prop). p.kind) c.props ≡ filter_map (kind_at trees f) (spots_in (members_of trees i).props)
  props_kinds i c small h =
      let t = class_is i c h in
      ap (λ (d : Class). map (λ (p : Prop). p.kind) d.props) (sym t.2) ∙ kinds_of trees f (spots_in (props_in f i)) ∙ ap (λ m. filter_map (kind_at trees f) (spots_in m)) (props_are i small)

  extends : HasNoWholeType trees → (i j : ℕ) (c above : Class) → i < length trees → j < length trees → slice_get schema i ≡ Some c → slice_get schema j ≡ Some above → get_or (firsts_of (headers_of trees)) i None ≡ Some j → Extends above c
  extends none i j c above small low here there first =
      let l = first_link (names_of (headers_of trees)) (headers_of trees) i j first in
      let kinds = props_kinds i c small here in
      let above_kinds = props_kinds j above low there in
      map_take (λ (p : Prop). p.kind) (length above.props) c.props
      ∙ ap (λ n. take n (map (λ (p : Prop). p.kind) c.props)) (sym (long_map (λ (p : Prop). p.kind) above.props) ∙ ap length above_kinds)
      ∙ ap (take (length (filter_map (kind_at trees f) (spots_in (members_of trees j).props)))) kinds
      ∙ kinds_first (kind_at trees f) (members_of trees j).props (members_of trees i).props (begins_with_first none i j l.0 small low l.1)
      ∙ sym above_kinds

  -- LINES

  abbrev pub firsts : List (Option ℕ)
  firsts = firsts_of (headers_of trees)

  abbrev pub line : ℕ → ℕ → List Class
  line n i = filter_map (slice_get schema) (reverse (chain n firsts i))

  -- a line that ends in the class
  pub record IsLineTo (l : List Class) (c : Class) : Type 0 where
    pub front : List Class
    pub is : l ≡ front ++ c ∷ []
    pub good : IsLine l

  behind : (x : Class) (xs : List Class) (a c : Class) → IsExtendedBy x (xs ++ a ∷ []) → Extends a c → IsExtendedBy x ((xs ++ a ∷ []) ++ c ∷ [])
  behind x [] a c h e = (h.0, (e, tt))
  behind x (y ∷ ys) a c h e = (h.0, behind y ys a c h.1 e)

  longer : (front : List Class) (a c : Class) → IsLine (front ++ a ∷ []) → Extends a c → IsLine ((front ++ a ∷ []) ++ c ∷ [])
  longer [] a c h e = (e, tt)
  longer (x ∷ xs) a c h e = behind x xs a c h e

  alone : (c : Class) → IsLineTo (c ∷ []) c
  alone c = record { front = []; is = refl; good = tt }

  with_class : (l : List Class) (a c : Class) → IsLineTo l a → Extends a c → IsLineTo (l ++ c ∷ []) c
  with_class l a c p e = record { front = l; is = refl; good = subst (λ (m : List Class). IsLine (m ++ c ∷ [])) (sym p.is) (longer p.front a c (subst IsLine p.is p.good) e) }

  pub first_small : (i j : ℕ) → get_or firsts i None ≡ Some j → j < length trees
  first_small i j h = let l = first_link (names_of (headers_of trees)) (headers_of trees) i j h in super_small i j (subst (IsIn j) (sym l.1) (inl refl))

  one_class : (c : Class) (i : ℕ) → slice_get schema i ≡ Some c → filter_map (slice_get schema) (i ∷ []) ≡ c ∷ []
  one_class c i h = ap (λ o. cons_option o []) h

  pub class_there : (i : ℕ) → i < length trees → (c : Class) × (slice_get schema i ≡ Some c)
  class_there i small = get_within schema i (subst (λ n. i < n) (sym (long_classes trees f 0 trees)) small)

  pub line_to : HasNoWholeType trees → (n i : ℕ) (c : Class) → i < length trees → slice_get schema i ≡ Some c → IsLineTo (line n i) c
  line_to none zero i c small h = subst (λ l. IsLineTo l c) (sym (one_class c i h)) (alone c)
  line_to none (suc n) i c small h = by (get_or firsts i None) refl (λ j d low there. line_to none n j d low there)
    where
      by : (o : Option ℕ) → get_or firsts i None ≡ o → ((j : ℕ) (d : Class) → j < length trees → slice_get schema j ≡ Some d → IsLineTo (line n j) d) → IsLineTo (line (suc n) i) c
      by None e up = subst (λ l. IsLineTo l c) (sym (ap (filter_map (slice_get schema)) (line_alone firsts (suc n) i e) ∙ one_class c i h)) (alone c)
      by (Some j) e up =
          let low = first_small i j e in
          let above = class_there j low in
          let under : line (suc n) i ≡ line n j ++ c ∷ [] =
          line_under schema firsts (suc n) i j (λ z. cc) e ∙ ap (λ m. line m j ++ filter_map (slice_get schema) (i ∷ [])) (let e' : suc n - 1 ≡ n = omega arith in e') ∙ ap (λ l. line n j ++ l) (one_class c i h) in
          subst (λ l. IsLineTo l c) (sym under) (with_class (line n j) above.0 c (up j above.0 low above.1) (extends none i j c above.0 small low h above.1 e))

  -- NAMES

  pub last_of : (x : Class) (xs : List Class) (c : Class) → last_props x (xs ++ c ∷ []) ≡ c.props
  last_of x [] c = refl
  last_of x (y ∷ ys) c = last_of y ys c

  names_of_line : (front : List Class) (c : Class) → names_behind (front ++ c ∷ []) ≡ map (λ (d : Class). short_name d.name) (front ++ c ∷ []) ++ map (λ a. a.0) (arrays_of c.props)
  names_of_line [] c = refl
  names_of_line (x ∷ xs) c = ap (λ ps. map (λ (d : Class). short_name d.name) ((x ∷ xs) ++ c ∷ []) ++ map (λ a. a.0) (arrays_of ps)) (last_of x xs c)

  shorts_of : (places : List ℕ) → map (λ (d : Class). short_name d.name) (filter_map (slice_get schema) places) ≡ filter_map (short_at trees) places
  shorts_of [] = refl
  shorts_of (i ∷ is) = by (slice_get schema i) (slice_get trees i) (short_same trees f 0 trees i) (shorts_of is)
    where
      by : (o : Option Class) (t : Option ClassTree) → option_map (λ (c : Class). short_name c.name) o ≡ option_map (λ (u : ClassTree). short_name u.name) t
          → map (λ (d : Class). short_name d.name) (filter_map (slice_get schema) is) ≡ filter_map (short_at trees) is
          → map (λ (d : Class). short_name d.name) (cons_option o (filter_map (slice_get schema) is)) ≡ cons_option (option_map (λ (u : ClassTree). short_name u.name) t) (filter_map (short_at trees) is)
      by None None e h = h
      by None (Some t) e h = cc
      by (Some c) None e h = cc
      by (Some c) (Some t) e h = let same : short_name c.name ≡ short_name t.name = cc in λ j. same j ∷ h j

  reversed : (places : List ℕ) → filter_map (short_at trees) (reverse places) ≡ reverse (filter_map (short_at trees) places)
  reversed [] = refl
  reversed (i ∷ is) = ap (filter_map (short_at trees)) (reverse-append (i ∷ []) is) ∙ filter_map-append (short_at trees) (reverse is) (i ∷ []) ∙ ap (λ l. l ++ cons_option (short_at trees i) []) (reversed is) ∙ by (short_at trees i)
    where
      by : (o : Option (List ℕ)) → reverse (filter_map (short_at trees) is) ++ cons_option o [] ≡ reverse (cons_option o (filter_map (short_at trees) is))
      by None = append-nil (reverse (filter_map (short_at trees) is))
      by (Some w) = sym (reverse-append (w ∷ []) (filter_map (short_at trees) is))

  -- the arrays of a class are those that its members declare
  abbrev array_names : List Prop → List (List ℕ)
  array_names ps = map (λ (a : List ℕ × Item). a.0) (arrays_of ps)

  one_array : (p : PropTree) (item : Item) (form : Form) (rest : List Prop) → item_of f p.of ≡ Some item → array_names (cons_option (option_map (prop_with p) (kind_by f p.of form)) rest) ≡ cons_option (cond (is_array form) (Some p.name) None) (array_names rest)
  one_array p item Single rest known = ap (λ o. array_names (cons_option (option_map (prop_with p) (option_map single_kind o)) rest)) known ∙ by item
    where
      by : (i : Item) → array_names (cons_option (option_map (prop_with p) (Some (single_kind i))) rest) ≡ array_names rest
      by it.Text = refl
      by it.Whole = refl
      by it.Truth = refl
      by (it.Ref c) = refl
      by (it.Serial c) = refl
  one_array p item ListForm rest known = ap (λ o. array_names (cons_option (option_map (prop_with p) (option_map k.ListOf o)) rest)) known
  one_array p item Array rest known = ap (λ o. array_names (cons_option (option_map (prop_with p) (option_map k.ArrayOf o)) rest)) known
  one_array p item (Relation c i) rest known = by c i
    where
      side : (n : ClassName) (w v : List ℕ) (many one : Bool) → array_names (cons_option (option_map (prop_with p) (cond many (Some (k.Many n v)) (cond one (Some (k.One n v)) None))) rest) ≡ array_names rest
      side n w v true one = refl
      side n w v false true = refl
      side n w v false false = refl

      by : (c i : Option (List ℕ)) → array_names (cons_option (option_map (prop_with p) (side_kind p.of c i)) rest) ≡ array_names rest
      by None i = refl
      by (Some w) None = refl
      by (Some w) (Some v) = side p.of w v (same_text w (codes "many")) (same_text w (codes "one"))

  known_item : (p : PropTree) → is_unknown_type f.names p ≡ false → (item : Item) × (item_of f p.of ≡ Some item)
  known_item p h = by (data_item p.of) refl (place_of f.names p.of) refl h
    where
      by : (d : Option Item) → data_item p.of ≡ d → (j : Option ℕ) → place_of f.names p.of ≡ j → (is_none d && is_none j) ≡ false → (item : Item) × (item_of f p.of ≡ Some item)
      by (Some item) e j g u = (item, ap (λ o. item_or o (listed_item f p.of)) e)
      by None e None g u = cc
      by None e (Some j) g u =
          (class_item p.of (sort_in f j), ap (λ o. item_or o (listed_item f p.of)) e ∙ ap (option_map (λ i. class_item p.of (sort_in f i))) g)

  arrays_are : (spots : List Spot) → list_any (λ s. option_any (is_unknown_type f.names) (prop_at trees s)) spots ≡ false
      → array_names (filter_map (λ s. option_and_then (prop_of f) (prop_at trees s)) spots) ≡ filter_map (array_at trees) spots
  arrays_are [] h = refl
  arrays_are (s ∷ ss) h =
      by (prop_at trees s) (or_first (option_any (is_unknown_type f.names) (prop_at trees s)) (list_any (λ t. option_any (is_unknown_type f.names) (prop_at trees t)) ss) h)
      (arrays_are ss (or_second (option_any (is_unknown_type f.names) (prop_at trees s)) (list_any (λ t. option_any (is_unknown_type f.names) (prop_at trees t)) ss) h))
    where
      by : (o : Option PropTree) → option_any (is_unknown_type f.names) o ≡ false → array_names (filter_map (λ t. option_and_then (prop_of f) (prop_at trees t)) ss) ≡ filter_map (array_at trees) ss
          → array_names (cons_option (option_and_then (prop_of f) o) (filter_map (λ t. option_and_then (prop_of f) (prop_at trees t)) ss)) ≡ cons_option (option_and_then array_by o) (filter_map (array_at trees) ss)
      by None u rest = rest
      by (Some p) u rest =
          let item = known_item p u in
          one_array p item.0 p.form (filter_map (λ t. option_and_then (prop_of f) (prop_at trees t)) ss) item.1 ∙ ap (cons_option (array_by p)) rest

  line_names : HasNoWholeType trees → (i : ℕ) (c : Class) → i < length trees → slice_get schema i ≡ Some c → is_persistent (sort_in f i) ≡ true → AreAllDifferent (names_behind (line (length trees) i))
  line_names none i c small h stored =
      let to = line_to none (length trees) i c small h in
      let ch = chain (length trees) firsts i in
      let t = class_is i c h in
      let clash : (clash_in trees (entries_with trees f.members (props_in f i) (indexes_in f i)) (extents.extent_of trees f i) || repeats [] (subnodes trees f i (props_in f i))) ≡ false =
      ap (λ b. b && (clash_in trees (entries_with trees f.members (props_in f i) (indexes_in f i)) (extents.extent_of trees f i) || repeats [] (subnodes trees f i (props_in f i)))) (sym stored)
      ∙ not_true (has_name_clash trees f i (props_in f i) (indexes_in f i)) (allowed i NameClash small) in
      let apart : AreAllDifferent (filter_map (short_at trees) ch ++ filter_map (array_at trees) (spots_in (props_in f i))) =
      all_differ (subnodes trees f i (props_in f i)) [] (or_second (clash_in trees (entries_with trees f.members (props_in f i) (indexes_in f i)) (extents.extent_of trees f i)) (repeats [] (subnodes trees f i (props_in f i))) clash) in
      let turned' : AreAllDifferent (reverse (filter_map (short_at trees) ch) ++ filter_map (array_at trees) (spots_in (props_in f i))) = turned_differ (filter_map (short_at trees) ch) (filter_map (array_at trees) (spots_in (props_in f i))) apart in
      let shorts : map (λ (d : Class). short_name d.name) (line (length trees) i) ≡ reverse (filter_map (short_at trees) ch) = shorts_of (reverse ch) ∙ reversed ch in
      let arrays : array_names c.props ≡ filter_map (array_at trees) (spots_in (props_in f i)) =
      ap (λ (d : Class). array_names d.props) (sym t.2) ∙ arrays_are (spots_in (props_in f i)) (not_true (has_unknown_type trees f (props_in f i)) (allowed i UnknownType small)) in
      let names : names_behind (line (length trees) i) ≡ reverse (filter_map (short_at trees) ch) ++ filter_map (array_at trees) (spots_in (props_in f i)) =
      ap names_behind to.is ∙ names_of_line to.front c ∙ ap (λ (l : List Class). map (λ (d : Class). short_name d.name) l ++ array_names c.props) (sym to.is)
      ∙ ap (λ l. l ++ array_names c.props) shorts ∙ ap (λ l. reverse (filter_map (short_at trees) ch) ++ l) arrays in
      subst AreAllDifferent (sym names) turned'

  -- THE CLASSES OF EXTENTS

  named_class : (o : Option Class) (name : ClassName) → option_map (λ (d : Class). d.name) o ≡ Some name → (c : Class) × (o ≡ Some c) × (c.name ≡ name)
  named_class None name h = cc
  named_class (Some c) name h = let same : c.name ≡ name = cc in (c, refl, same)

  pub record IsOfExtent (name extent : ClassName) : Type 0 where
    pub place : ℕ
    pub small : place < length trees
    pub class : Class
    pub there : slice_get schema place ≡ Some class
    pub stored : is_persistent (sort_in f place) ≡ true
    pub line_is : line_of schema name ≡ line (length trees) place
    pub found : class_of schema name ≡ Some class
    pub named : class.name ≡ name
    pub root : Class
    pub root_there : slice_get schema (top_of trees place) ≡ Some root
    pub root_named : root.name ≡ extent

  pub of_extent : (name extent : ClassName) → extent_of schema name ≡ Some extent → IsOfExtent name extent
  unfolding line_of
  of_extent name extent h = by (place_of (class_names schema) name) refl h
    where
      at : (i : ℕ) → place_of (class_names schema) name ≡ Some i → (o : Option Class) → slice_get schema i ≡ o → option_and_then (root_if schema i) o ≡ Some extent → IsOfExtent name extent
      at i e None g r = cc
      at i e (Some c) g r = persistent (is_persistent c.sort) refl r
        where
          small : i < length trees
          small =
              let p = position-Some (same_text name.0) (class_names schema) i [] e in
              subst (λ n. i < n) (ap (λ hs. length (names_of hs)) (headers-from trees f 0 trees) ∙ length-names trees) p.0

          persistent : (b : Bool) → is_persistent c.sort ≡ b → cond b (root_at schema i) None ≡ Some extent → IsOfExtent name extent
          persistent false s q = cc
          persistent true s q =
              let t = class_is i c g in
              let at_name = position-Some (same_text name.0) (class_names schema) i [] e in
              let text : c.name.0 ≡ name.0 = sym (same_text-is name.0 (get_or (class_names schema) i []) at_name.1 ∙ class_named schema i c g) in
              let top_name : option_map (λ (d : Class). d.name) (slice_get schema (top_of trees i)) ≡ Some extent =
              sym (
              ap (λ n. option_map (λ (d : Class). d.name) (slice_get schema (top n (firsts_of (classes.headers_of schema)) i))) (long_classes trees f 0 trees)
              ∙ ap (λ hs. option_map (λ (d : Class). d.name) (slice_get schema (top (length trees) (firsts_of hs) i))) (headers-from trees f 0 trees)
              ) ∙ q in
              let r = named_class (slice_get schema (top_of trees i)) extent top_name in
              record {
                named = λ j. record { 0 = text j };
                root = r.0;
                root_there = r.1;
                root_named = r.2;
                place = i;
                small = small;
                class = c;
                there = g;
                stored = ap (λ (d : Class). is_persistent d.sort) t.2 ∙ s;
                found = ap (option_and_then (λ j. slice_get schema j)) e ∙ g;
                line_is =
                    ap (λ o. filter_map (slice_get schema) (line_places schema o)) e
                    ∙ ap (λ n. filter_map (slice_get schema) (reverse (chain n (firsts_of (classes.headers_of schema)) i))) (long_classes trees f 0 trees)
                    ∙ ap (λ hs. filter_map (slice_get schema) (reverse (chain (length trees) (firsts_of hs) i))) (headers-from trees f 0 trees);
              }

      by : (o : Option ℕ) → place_of (class_names schema) name ≡ o → option_and_then (λ i. option_and_then (root_if schema i) (slice_get schema i)) o ≡ Some extent → IsOfExtent name extent
      by None e r = cc
      by (Some i) e r = at i e (slice_get schema i) refl r

  pub is_storable : HasNoWholeType trees → (name extent : ClassName) → extent_of schema name ≡ Some extent → IsStorable schema name
  is_storable none name extent h =
      let p = of_extent name extent h in
      record {
        line = subst IsLine (sym p.line_is) (line_to none (length trees) p.place p.class p.small p.there).good;
        names = subst (λ l. AreAllDifferent (names_behind l)) (sym p.line_is) (line_names none p.place p.class p.small p.there p.stored);
      }

  pub top_there : (i : ℕ) → i < length trees → slice_get f.tops i ≡ Some (top_of trees i)
  top_there i small = get-count (λ j. top_of trees j) 0 (length trees) i small ∙ (let e : 0 + i ≡ i = omega arith in ap (λ j. Some (top_of trees j)) e)

  class_even : (i : ℕ) (c : Class) → i < length trees → slice_get schema i ≡ Some c → is_persistent (sort_in f i) ≡ true → AreEven (Some c)
  class_even i c small h stored name m n first second =
      let t = class_is i c h in
      let root = top_of trees i in
      let es = entries_in trees f i in
      let ds = extents.extent_of trees f i in
      let clash : clash_in trees es ds ≡ false =
      or_first (clash_in trees es ds) (repeats [] (subnodes trees f i (props_in f i)))
      (ap (λ b. b && (clash_in trees es ds || repeats [] (subnodes trees f i (props_in f i)))) (sym stored) ∙ not_true (has_name_clash trees f i (props_in f i) (indexes_in f i)) (allowed i NameClash small)) in
      let in' : is_in_extent f root i ≡ true =
      ap (λ b. b && option_any (λ u. nat_eq u root) (slice_get f.tops i)) stored ∙ ap (option_any (λ u. nat_eq u root)) (top_there i small) ∙ eq-eqb root root refl in
      let p = entry_of trees f i t.0 name m (ap (has_entries name m) t.2 ∙ first) in
      let q = entry_of trees f i t.0 name n (ap (has_entries name n) t.2 ∙ second) in
      let held : IsHeld q.entry ds = subst (λ o. IsHeld q.entry (extents.entries_at trees f o)) (sym (top_there i small)) (extent_held trees f root q.entry i small in' q.held) in
      even_counts trees es ds name m n clash p (record { entry = q.entry; held = held; named = q.named; counted = q.counted; lone = q.lone })

  pub is_even : (name extent : ClassName) → extent_of schema name ≡ Some extent → AreEven (class_of schema name)
  is_even name extent h = let p = of_extent name extent h in subst AreEven (sym p.found) (class_even p.place p.class p.small p.there p.stored)

  -- NAMES OF CLASSES DIFFER

  before_or : (a b : ℕ) → (a < b) ⊎ (a ≡ b) ⊎ (b < a)
  before_or zero zero = inr (inl refl)
  before_or zero (suc b) = inl (omega arith)
  before_or (suc a) zero = inr (inr (omega arith))
  before_or (suc a) (suc b) = by (before_or a b)
    where
      by : (a < b) ⊎ (a ≡ b) ⊎ (b < a) → (suc a < suc b) ⊎ (suc a ≡ suc b) ⊎ (suc b < suc a)
      by (inl h) = inl (omega (arith, h))
      by (inr (inl h)) = inr (inl (ap suc h))
      by (inr (inr h)) = inr (inr (omega (arith, h)))

  any_before : (x : List ℕ) (names : List (List ℕ)) (a b : ℕ) → a < b → a < length names → same_text x (get_or names a []) ≡ true → list_any (same_text x) (take b names) ≡ true
  any_before x [] a b lt within h = absurd (omega (arith, within))
  any_before x (n ∷ ns) a zero lt within h = absurd (omega (arith, lt))
  any_before x (n ∷ ns) zero (suc b) lt within h = ap (λ t. t || list_any (same_text x) (take b ns)) h
  any_before x (n ∷ ns) (suc a) (suc b) lt within h = by (same_text x n) (any_before x ns a b (omega (arith, lt)) (omega (arith, within)) h)
    where
      by : (t : Bool) → list_any (same_text x) (take b ns) ≡ true → (t || list_any (same_text x) (take b ns)) ≡ true
      by true h' = refl
      by false h' = h'

  pub names_are : class_names schema ≡ f.names
  names_are = ap names_of (headers-from trees f 0 trees)

  not_repeated : (a b : ℕ) (c d : Class) → b < length trees → slice_get schema a ≡ Some c → slice_get schema b ≡ Some d → c.name ≡ d.name → a < b → ⊥
  not_repeated a b c d small here there same lt =
      let first : get_or f.names a [] ≡ c.name.0 = ap (λ ns. get_or ns a []) (sym names_are) ∙ class_named schema a c here in
      let second : get_or f.names b [] ≡ d.name.0 = ap (λ ns. get_or ns b []) (sym names_are) ∙ class_named schema b d there in
      let one : get_or f.names b [] ≡ get_or f.names a [] = second ∙ ap (λ (n : ClassName). n.0) (sym same) ∙ sym first in
      let long = length-names trees in
      let again = any_before (get_or f.names b []) f.names a b lt (omega (arith, long, lt, small)) (is-same_text (get_or f.names b []) (get_or f.names a []) one) in
      allowed b RepeatedClass small again

  pub one_place : (a b : ℕ) (c d : Class) → a < length trees → b < length trees → slice_get schema a ≡ Some c → slice_get schema b ≡ Some d → c.name ≡ d.name → a ≡ b
  one_place a b c d low small here there same = by (before_or a b)
    where
      by : (a < b) ⊎ (a ≡ b) ⊎ (b < a) → a ≡ b
      by (inl h) = absurd (not_repeated a b c d small here there same h)
      by (inr (inl h)) = h
      by (inr (inr h)) = absurd (not_repeated b a d c low there here (sym same) h)

  -- ENTRIES OF AN EXTENT

  pub some_at : (test : Class → Bool) (cs : List Class) → list_any test cs ≡ true → (i : ℕ) × (c : Class) × (slice_get cs i ≡ Some c) × (test c ≡ true)
  some_at test [] h = cc
  some_at test (d ∷ ds) h = by (test d) refl h (some_at test ds)
    where
      by : (b : Bool) → test d ≡ b → (b || list_any test ds) ≡ true → (list_any test ds ≡ true → (i : ℕ) × (c : Class) × (slice_get ds i ≡ Some c) × (test c ≡ true)) → (i : ℕ) × (c : Class) × (slice_get (d ∷ ds) i ≡ Some c) × (test c ≡ true)
      by true e k more = (0, d, refl, e)
      by false e k more = let p = more k in (suc p.0, p.1, p.2, p.3)

  pub slice_within : (cs : List Class) (i : ℕ) (c : Class) → slice_get cs i ≡ Some c → i < length cs
  slice_within [] i c h = cc
  slice_within (d ∷ ds) zero c h = omega arith
  slice_within (d ∷ ds) (suc i) c h = let less = slice_within ds i c h in omega (arith, less)

  pub in_extent : (extent : ClassName) (o : Option ClassName) → is_extent extent o ≡ true → o ≡ Some extent
  in_extent extent None h = cc
  in_extent extent (Some root) h = let text = same_text-is root.0 extent.0 h in λ i. Some (record { 0 = text i })

  -- a class that has such entries, at its place
  record HasThem (extent : ClassName) (name : List ℕ) (n : ℕ) : Type 0 where
    place : ℕ
    small : place < length trees
    tree : ClassTree
    has : has_entries name n (class_with trees f place tree) ≡ true
    stored : is_persistent (sort_in f place) ≡ true
    root : Class
    root_there : slice_get schema (top_of trees place) ≡ Some root
    root_named : root.name ≡ extent

  has_them : (extent : ClassName) (name : List ℕ) (n : ℕ) → extent_has schema extent name n ≡ true → HasThem extent name n
  has_them extent name n h =
      let p = some_at (λ c. is_extent extent (extent_of schema c.name) && has_entries name n c) schema h in
      let in' = in_extent extent (extent_of schema p.1.name) (and_first (is_extent extent (extent_of schema p.1.name)) (has_entries name n p.1) p.3) in
      let q = of_extent p.1.name extent in' in
      let small = subst (λ l. p.0 < l) (long_classes trees f 0 trees) (slice_within schema p.0 p.1 p.2) in
      let same : q.place ≡ p.0 = one_place q.place p.0 q.class p.1 q.small small q.there p.2 q.named in
      let t = class_is p.0 p.1 p.2 in
      record {
        place = p.0;
        small = small;
        tree = t.0;
        has = ap (has_entries name n) t.2 ∙ and_second (is_extent extent (extent_of schema p.1.name)) (has_entries name n p.1) p.3;
        stored = ap (λ i. is_persistent (sort_in f i)) (sym same) ∙ q.stored;
        root = q.root;
        root_there = ap (λ i. slice_get schema (top_of trees i)) (sym same) ∙ q.root_there;
        root_named = q.root_named;
      }

  pub extent_even : (extent : ClassName) → IsEvenExtent schema extent
  extent_even extent name m n first second =
      let p = has_them extent name m first in
      let q = has_them extent name n second in
      let root = top_of trees p.place in
      let es = entries_in trees f p.place in
      let ds = extents.extent_of trees f p.place in
      let top_small = slice_within schema root p.root p.root_there in
      let other_small = slice_within schema (top_of trees q.place) q.root q.root_there in
      let same : top_of trees q.place ≡ root =
      one_place (top_of trees q.place) root q.root p.root (subst (λ l. top_of trees q.place < l) (long_classes trees f 0 trees) other_small) (subst (λ l. root < l) (long_classes trees f 0 trees) top_small) q.root_there p.root_there (q.root_named ∙ sym p.root_named) in
      let clash : clash_in trees es ds ≡ false =
      or_first (clash_in trees es ds) (repeats [] (subnodes trees f p.place (props_in f p.place)))
      (ap (λ b. b && (clash_in trees es ds || repeats [] (subnodes trees f p.place (props_in f p.place)))) (sym p.stored) ∙ not_true (has_name_clash trees f p.place (props_in f p.place) (indexes_in f p.place)) (allowed p.place NameClash p.small)) in
      let in' : is_in_extent f root q.place ≡ true =
      ap (λ b. b && option_any (λ u. nat_eq u root) (slice_get f.tops q.place)) q.stored ∙ ap (option_any (λ u. nat_eq u root)) (top_there q.place q.small) ∙ eq-eqb (top_of trees q.place) root same in
      let a = entry_of trees f p.place p.tree name m p.has in
      let b = entry_of trees f q.place q.tree name n q.has in
      let held : IsHeld b.entry ds = subst (λ o. IsHeld b.entry (extents.entries_at trees f o)) (sym (top_there p.place p.small)) (extent_held trees f root b.entry q.place q.small in' b.held) in
      even_counts trees es ds name m n clash a (record { entry = b.entry; held = held; named = b.named; counted = b.counted; lone = b.lone })

pub linked_extents_even : (trees : List ClassTree) (linked : List Class) (extent : ClassName) → IsLinked trees linked → IsEvenExtent linked extent
linked_extents_even trees linked extent is = subst (λ (s : List Class). IsEvenExtent s extent) (sym is.means) (extent_even trees is.allowed extent)

pub linked_even : (trees : List ClassTree) (linked : List Class) (name extent : ClassName) → IsLinked trees linked → extent_of linked name ≡ Some extent → AreEven (class_of linked name)
linked_even trees linked name extent is h =
    subst (λ (s : List Class). AreEven (class_of s name)) (sym is.means) (is_even trees is.allowed name extent (subst (λ (s : List Class). extent_of s name ≡ Some extent) is.means h))

pub linked_storable : (trees : List ClassTree) (linked : List Class) (name extent : ClassName) → IsLinked trees linked → HasNoWholeType trees → extent_of linked name ≡ Some extent → IsStorable linked name
linked_storable trees linked name extent is none h =
    subst (λ (s : List Class). IsStorable s name) (sym is.means) (is_storable trees is.allowed none name extent (subst (λ (s : List Class). extent_of s name ≡ Some extent) is.means h))
