-- In a schema that was linked no class has more properties than a class may have, and the classes of parts are among the classes.
use Rattle.std.proofs.Common.{◌≡◌, ◌≤◌, ◌<◌, ◌||◌, ◌&&◌, ℕ, zero, suc, Bool, true, false, cond, List, [], ◌∷◌, filter_map, length, slice_get, Option, None, Some, IsSome, is_some, option_map, nat_lt, nat_eq, codes, refl, sym, ap, subst, ◌∙◌, arith}
use Rattle.std.proofs.lemmas.Bool.Decides.{nat_tests}
use Rattle.std.proofs.lemmas.List.Quantifiers.{position-Some}
use Rattle.std.specs.List.{cons_option}
use Rattle.std.specs.Option.{option_and_then}
use Rattle.obj_kinds.specs.declared.name.ClassName.{ClassName}
use Rattle.schema_kinds.specs.declared.class.Class.{Class}
use Rattle.schema_kinds.specs.declared.class.Sort.{Sort}
use Rattle.schema_kinds.specs.declared.class.Sort.TheVariants.{Persistent, Serial, Registered, Plain}
use Rattle.schema_kinds.specs.declared.kind.Kind.{Kind}
use Rattle.schema_kinds.specs.declared.kind.Kind.TheVariants as k
use Rattle.schema_kinds.specs.declared.kind.Item.{Item}
use Rattle.schema_kinds.specs.declared.kind.Item.TheVariants as it
use Rattle.schema_kinds.specs.declared.prop.Prop.{Prop}
use Rattle.schema_kinds.specs.declared.tree.ClassTree.{ClassTree}
use Rattle.schema_kinds.specs.declared.tree.PropTree.{PropTree}
use Rattle.schema_kinds.specs.declared.tree.Form.{Form}
use Rattle.schema_kinds.specs.declared.tree.Form.TheVariants.{Single, List as ListForm, Array, Relation}
use Rattle.schema_kinds.specs.Links.{climbs}
use Rattle.schema_kinds.specs.Hierarchy.{same_text, place_of}
use Rattle.schema_kinds.specs.Classes.{class_of, props_of, is_persistent}
use Rattle.class_facts.specs.declared.spots.Spot.{Spot}
use Rattle.class_facts.specs.Types.{data_item}
use Rattle.class_facts.specs.Trees.{prop_at, spots_in}
use Rattle.class_facts.specs.Facts.{Facts, facts_of, sort_in, props_in, indexes_in, option_any, any_index}
use Rattle.class_facts.proofs.FactLemmas.{length-names}
use Rattle.class_extents.specs.Extents.{has_too_many, long_tree, long_index, declared_indexes, extent_of}
use Rattle.class_meaning.specs.Meaning.{class_item, item_or, item_of, single_kind, side_kind, kind_by, prop_with, prop_of, classes_of}
use Rattle.class_link.specs.declared.error.LinkWhy.{LinkWhy}
use Rattle.class_link.specs.declared.error.LinkWhy.TheVariants.{TooMany}
use Rattle.class_link.specs.Refusal as refusal
use Rattle.world_images.proofs.EntryLaws.{class_listed}
use Rattle.obj_shape.specs.Wholeness.{IsWhole, item_part, part_class}
use Rattle.linked_storage.proofs.KindLaws.{or_first, or_second}
use Rattle.linked_storage.proofs.ClassLaws.{not_true, class_is, class_there, names_are}
use Rattle.linked_shapes.specs.Laws.{LinkedIsWhole}

-- ---- lists

few_mapped : {A B : Type 0} (f : A → Option B) (xs : List A) → length (filter_map f xs) ≤ length xs
few_mapped f [] = omega arith
few_mapped {A} {B} f (x ∷ xs) = by (f x) (few_mapped f xs)
  where
    by : (o : Option B) → length (filter_map f xs) ≤ length xs → length (cons_option o (filter_map f xs)) ≤ suc (length xs)
    by None less = omega (arith, less)
    by (Some y) less = omega (arith, less)

-- what a list holds came from an item
from_mapped : {A B : Type 0} (f : A → Option B) (xs : List A) (i : ℕ) (y : B) → slice_get (filter_map f xs) i ≡ Some y → (x : A) × (f x ≡ Some y)
from_mapped f [] i y h = absurd (cc h)
from_mapped {A} {B} f (x ∷ xs) i y h = by (f x) refl i h (λ j. from_mapped f xs j y)
  where
    by : (o : Option B) → f x ≡ o → (i : ℕ) → slice_get (cons_option o (filter_map f xs)) i ≡ Some y → ((j : ℕ) → slice_get (filter_map f xs) j ≡ Some y → (x : A) × (f x ≡ Some y)) → (x : A) × (f x ≡ Some y)
    by None e i g more = more i g
    by (Some z) e zero g more = (x, e ∙ g)
    by (Some z) e (suc i) g more = more i g

small_place : {A : Type 0} (xs : List A) (i : ℕ) (x : A) → slice_get xs i ≡ Some x → i < length xs
small_place [] i x h = absurd (cc h)
small_place (y ∷ ys) zero x h = omega arith
small_place (y ∷ ys) (suc i) x h = let less = small_place ys i x h in omega (arith, less)

-- ---- the class of a part

data_no_part : (name c : ClassName) (item : Item) → data_item name ≡ Some item → item_part item ≡ Some c → ⊥
data_no_part name c item = by (same_text name.0 (codes "%String")) (same_text name.0 (codes "%Integer")) (same_text name.0 (codes "%Date")) (same_text name.0 (codes "%Boolean"))
  where
    no_part : (i : Item) → item_part i ≡ None → Some i ≡ Some item → item_part item ≡ Some c → ⊥
    no_part i none e h = let same : i ≡ item = cc e in let bad : None ≡ Some c = sym none ∙ ap item_part same ∙ h in absurd (cc bad)

    by : (s i d b : Bool) → cond s (Some it.Text) (cond i (Some it.Whole) (cond d (Some it.Whole) (cond b (Some it.Truth) None))) ≡ Some item → item_part item ≡ Some c → ⊥
    by true i d b e h = no_part it.Text refl e h
    by false true d b e h = no_part it.Whole refl e h
    by false false true b e h = no_part it.Whole refl e h
    by false false false true e h = no_part it.Truth refl e h
    by false false false false e h = absurd (cc e)

class_part : (name c : ClassName) (sort : Sort) → item_part (class_item name sort) ≡ Some c → c ≡ name
class_part name c Persistent h = absurd (cc h)
class_part name c Serial h = let same : name ≡ c = cc h in sym same
class_part name c Registered h = absurd (cc h)
class_part name c Plain h = absurd (cc h)

-- it is a class that is listed
item_listed : (f : Facts) (name c : ClassName) (item : Item) → item_of f name ≡ Some item → item_part item ≡ Some c → (j : ℕ) × (place_of f.names name ≡ Some j) × (c ≡ name)
item_listed f name c item = by (data_item name) refl (place_of f.names name) refl
  where
    by : (d : Option Item) → data_item name ≡ d → (o : Option ℕ) → place_of f.names name ≡ o → item_or d (option_map (λ j. class_item name (sort_in f j)) o) ≡ Some item → item_part item ≡ Some c → (j : ℕ) × (place_of f.names name ≡ Some j) × (c ≡ name)
    by (Some i) e o p g h = absurd (data_no_part name c item (e ∙ g) h)
    by None e None p g h = absurd (cc g)
    by None e (Some j) p g h =
        let same : class_item name (sort_in f j) ≡ item = cc g in
        (j, p, class_part name c (sort_in f j) (ap item_part same ∙ h))

single_part : (item : Item) → part_class (single_kind item) ≡ item_part item
single_part it.Text = refl
single_part it.Whole = refl
single_part it.Truth = refl
single_part (it.Ref name) = refl
single_part (it.Serial name) = refl

-- a kind of elements has the part that its item has
kind_listed : (f : Facts) (name c : ClassName) (to : Item → Kind) → ((i : Item) → part_class (to i) ≡ item_part i) → (kind : Kind) → option_map to (item_of f name) ≡ Some kind → part_class kind ≡ Some c → (j : ℕ) × (place_of f.names name ≡ Some j) × (c ≡ name)
kind_listed f name c to same kind = by (item_of f name) refl
  where
    by : (o : Option Item) → item_of f name ≡ o → option_map to o ≡ Some kind → part_class kind ≡ Some c → (j : ℕ) × (place_of f.names name ≡ Some j) × (c ≡ name)
    by None e g h = absurd (cc g)
    by (Some i) e g h = let one : to i ≡ kind = cc g in item_listed f name c i e (sym (same i) ∙ ap part_class one ∙ h)

side_no_part : (name c : ClassName) (cardinality inverse : Option (List ℕ)) (kind : Kind) → side_kind name cardinality inverse ≡ Some kind → part_class kind ≡ Some c → ⊥
side_no_part name c None inverse kind = λ g h. absurd (cc g)
side_no_part name c (Some x) None kind = λ g h. absurd (cc g)
side_no_part name c (Some x) (Some y) kind = by (same_text x (codes "many")) (same_text x (codes "one"))
  where
    no_part : (n : Kind) → part_class n ≡ None → Some n ≡ Some kind → part_class kind ≡ Some c → ⊥
    no_part n none e h = let same : n ≡ kind = cc e in let bad : None ≡ Some c = sym none ∙ ap part_class same ∙ h in absurd (cc bad)

    by : (m o : Bool) → cond m (Some (k.Many name y)) (cond o (Some (k.One name y)) None) ≡ Some kind → part_class kind ≡ Some c → ⊥
    by true o g h = no_part (k.Many name y) refl g h
    by false true g h = no_part (k.One name y) refl g h
    by false false g h = absurd (cc g)

kind_named : (f : Facts) (name c : ClassName) (form : Form) (kind : Kind) → kind_by f name form ≡ Some kind → part_class kind ≡ Some c → (j : ℕ) × (place_of f.names name ≡ Some j) × (c ≡ name)
kind_named f name c Single kind g h = kind_listed f name c single_kind single_part kind g h
kind_named f name c ListForm kind g h = kind_listed f name c k.ListOf (λ i. refl) kind g h
kind_named f name c Array kind g h = kind_listed f name c k.ArrayOf (λ i. refl) kind g h
kind_named f name c (Relation cardinality inverse) kind g h = absurd (side_no_part name c cardinality inverse kind g h)

prop_kind : (f : Facts) (q : PropTree) (p : Prop) → prop_of f q ≡ Some p → kind_by f q.of q.form ≡ Some p.kind
prop_kind f q p = by (kind_by f q.of q.form)
  where
    by : (o : Option Kind) → option_map (prop_with q) o ≡ Some p → o ≡ Some p.kind
    by None g = absurd (cc g)
    by (Some kind) g = let same : prop_with q kind ≡ p = cc g in ap (λ (x : Prop). Some x.kind) same

at_prop : (f : Facts) (o : Option PropTree) (p : Prop) → option_and_then (prop_of f) o ≡ Some p → (q : PropTree) × (prop_of f q ≡ Some p)
at_prop f None p g = absurd (cc g)
at_prop f (Some q) p g = (q, g)

module _ (trees : List ClassTree) (allowed : (i : ℕ) (why : LinkWhy) → i < length trees → refusal.Has trees i why → ⊥) where
  abbrev f : Facts
  f = facts_of trees

  abbrev schema : List Class
  schema = classes_of trees f

  -- ---- how many properties there are

  few_in : (i : ℕ) → i < length trees → length (props_in f i) ≤ 200
  few_in i small =
      let none = not_true trees allowed (has_too_many trees f i (props_in f i) (indexes_in f i)) (allowed i TooMany small) in
      let not_more = third (nat_eq i 500) (climbs 17 f.links i) (nat_lt 200 (length (props_in f i))) (option_any long_tree (slice_get trees i)) (any_index trees (indexes_in f i) long_index) (is_persistent (sort_in f i) && nat_lt 50 (length (declared_indexes (extent_of trees f i)))) none in
      at_most (length (props_in f i)) not_more
    where
      third : (a b c d e g : Bool) → (a || b || c || d || e || g) ≡ false → c ≡ false
      third a b c d e g h = or_second (a || b) c (or_first (a || b || c) d (or_first (a || b || c || d) e (or_first (a || b || c || d || e) g h)))

      at_most : (n : ℕ) → nat_lt 200 n ≡ false → n ≤ 200
      at_most n e = grind (arith, nat_tests)

  long_spots : (xs : List (List ℕ × Spot)) → length (spots_in xs) ≡ length xs
  long_spots [] = refl
  long_spots (x ∷ xs) = ap suc (long_spots xs)

  few_props : (name : ClassName) (o : Option Class) → class_of schema name ≡ o → length (props_of o) ≤ 200
  few_props name None e = omega arith
  few_props name (Some c) e =
      let l = class_listed schema name c e in
      let t = class_is trees allowed l.place c l.there in
      let less = few_mapped (λ s. option_and_then (prop_of f) (prop_at trees s)) (spots_in (props_in f l.place)) in
      let long = long_spots (props_in f l.place) in
      let few = few_in l.place (small_place trees l.place t.0 t.1) in
      subst (λ (d : Class). length d.props ≤ 200) t.2 (omega (arith, less, long, few))

  -- ---- the classes of parts

  there : (name : ClassName) (j : ℕ) → place_of f.names name ≡ Some j → IsSome (class_of schema name)
  there name j e =
      let p = position-Some (same_text name.0) f.names j [] e in
      let long = length-names trees in
      let c = class_there trees allowed j (subst (λ n. j < n) long p.0) in
      ap (λ ns. is_some (option_and_then (slice_get schema) (place_of ns name))) (names_are trees allowed) ∙ ap (λ o. is_some (option_and_then (slice_get schema) o)) e ∙ ap is_some c.1

  part_there : (name c : ClassName) (o : Option Class) → class_of schema name ≡ o → (p : Prop) (i : ℕ) → slice_get (props_of o) i ≡ Some p → part_class p.kind ≡ Some c → IsSome (class_of schema c)
  part_there name c None e p i at part = absurd (cc at)
  part_there name c (Some d) e p i at part =
      let l = class_listed schema name d e in
      let t = class_is trees allowed l.place d l.there in
      let from = from_mapped (λ s. option_and_then (prop_of f) (prop_at trees s)) (spots_in (props_in f l.place)) i p (ap (λ (x : Class). slice_get x.props i) t.2 ∙ at) in
      let q = at_prop f (prop_at trees from.0) p from.1 in
      let named = kind_named f q.0.of c q.0.form p.kind (prop_kind f q.0 p q.1) part in
      subst (λ x. IsSome (class_of schema x)) (sym named.2) (there q.0.of named.0 named.1)

  whole : IsWhole schema
  whole = record {
    few = λ name. few_props name (class_of schema name) refl;
    parts = λ name c p i at part. part_there name c (class_of schema name) refl p i at part;
  }

pub linked_whole : LinkedIsWhole
linked_whole trees linked given = subst IsWhole (sym given.means) (whole trees given.allowed)
