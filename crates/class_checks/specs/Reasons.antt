-- Why a class can't be linked: each reason by itself.
use Rattle.std.specs.Prelude.{ℕ, pos, Bool, true, false, cond, not, ◌&&◌, ◌||◌, List, [], ◌∷◌, map, filter_map, take, length, get_or, codes, int_lt, Option, Some, None, is_none, option_and_then, slice_get}
use Rattle.std.specs.List.{list_any}
use Rattle.obj_kinds.specs.declared.name.ClassName.{ClassName}
use Rattle.schema_kinds.specs.declared.class.Index.{Index}
use Rattle.schema_kinds.specs.declared.class.Sort.{Sort}
use Rattle.schema_kinds.specs.declared.tree.ClassTree.{ClassTree}
use Rattle.schema_kinds.specs.declared.tree.PropTree.{PropTree}
use Rattle.schema_kinds.specs.declared.tree.Form.{Form}
use Rattle.schema_kinds.specs.declared.tree.Form.TheVariants.{Single, List as ListForm, Array, Relation}
use Rattle.schema_kinds.specs.Links.{row, climbs}
use Rattle.schema_kinds.specs.Hierarchy.{same_text, is_system, place_of}
use Rattle.schema_kinds.specs.Classes.{is_persistent}
use Rattle.class_facts.specs.declared.spots.Spot.{Spot}
use Rattle.class_facts.specs.Spots.{spot_of}
use Rattle.class_facts.specs.Trees.{system_sort, supers_of, own_props, prop_at, spots_in}
use Rattle.class_facts.specs.Types.{data_item}
use Rattle.class_facts.specs.Sorts.{is_serial, is_stored}
use Rattle.class_facts.specs.Numbers.{number_of}
use Rattle.class_facts.specs.Words.{is_word, same_word}
use Rattle.class_facts.specs.Facts.{Facts, count_from, sort_in, option_any, is_class_of, props_in, any_prop, any_index}

-- RepeatedClass: an earlier class has the same name
abbrev pub is_repeated : List (List ℕ) → ℕ → Bool
is_repeated names i = list_any (same_text (get_or names i [])) (take i names)

-- UnknownSuper: a superclass is neither listed nor a system class; a later one that begins with `%` is skipped
abbrev pub is_unknown : List (List ℕ) → ClassName → Bool
is_unknown names s = is_none (place_of names s) && is_none (system_sort s)

abbrev pub has_unknown : List (List ℕ) → List ClassName → Bool
has_unknown names [] = false
has_unknown names (s ∷ ss) = is_unknown names s || list_any (λ t. is_unknown names t && not (is_system t)) ss

-- UnknownType: a property's class is unknown
abbrev pub is_unknown_type : List (List ℕ) → PropTree → Bool
is_unknown_type names p = is_none (data_item p.of) && is_none (place_of names p.of)

abbrev pub has_unknown_type : List ClassTree → Facts → List (List ℕ × Spot) → Bool
has_unknown_type trees f props = any_prop trees props (is_unknown_type f.names)

-- KindClash: a superclass other than the first is persistent
abbrev pub has_persistent : Facts → List ClassName → Bool
has_persistent f [] = false
has_persistent f (s ∷ ss) = list_any (λ t. not (is_system t) && is_class_of f is_persistent t) ss

-- whether two properties are declared with one kind
abbrev pub is_whole_type : ClassName → Bool
is_whole_type name = same_text name.0 (codes "%Integer") || same_text name.0 (codes "%Date")

abbrev pub same_type : ClassName → ClassName → Bool
same_type a b = same_text a.0 b.0 || (is_whole_type a && is_whole_type b)

abbrev pub same_form : Form → Form → Bool
same_form Single Single = true
same_form ListForm ListForm = true
same_form Array Array = true
same_form (Relation cardinality inverse) (Relation other_cardinality other_inverse) = same_word cardinality other_cardinality && same_word inverse other_inverse
same_form a b = false

abbrev pub same_kind : PropTree → PropTree → Bool
same_kind p q = same_form p.form q.form && same_type p.of q.of

-- the property of that name of the first superclass that has one
abbrev pub spot_or : Option Spot → Option Spot → Option Spot
spot_or None other = other
spot_or (Some spot) other = Some spot

abbrev pub inherited_spot : Facts → List ℕ → List ℕ → Option Spot
inherited_spot f name [] = None
inherited_spot f name (s ∷ ss) = spot_or (spot_of name (props_in f s)) (inherited_spot f name ss)

-- KindClash: or a property is declared again with another kind
abbrev pub changes_kind : List ClassTree → Facts → List ℕ → PropTree → Bool
changes_kind trees f supers p = option_any (λ q. not (same_kind p q)) (option_and_then (prop_at trees) (inherited_spot f p.name supers))

abbrev pub has_kind_clash : List ClassTree → Facts → ℕ → Bool
has_kind_clash trees f i =
    has_persistent f (supers_of (slice_get trees i))
    || list_any (changes_kind trees f (row f.links i)) (own_props (slice_get trees i))

-- BadType: a property of a persistent or serial class has a registered or plain class as its type, a serial class
-- has an array, or a relationship stands outside a persistent class or names a class that isn't persistent
abbrev pub bad_form : Facts → Sort → ClassName → Form → Bool
bad_form f sort of Single = is_stored sort && is_class_of f (λ s. not (is_stored s)) of
bad_form f sort of ListForm = is_stored sort && is_class_of f (λ s. not (is_stored s)) of
bad_form f sort of Array = is_serial sort || (is_stored sort && is_class_of f (λ s. not (is_stored s)) of)
bad_form f sort of (Relation cardinality inverse) = not (is_persistent sort) || not (is_class_of f is_persistent of)

abbrev pub bad_type : Facts → Sort → PropTree → Bool
bad_type f sort p = bad_form f sort p.of p.form

abbrev pub has_bad_type : List ClassTree → Facts → ℕ → List (List ℕ × Spot) → Bool
has_bad_type trees f i props = any_prop trees props (bad_type f (sort_in f i))

-- SerialRing: serial parts nest more than 4 deep, which is so where a serial class contains itself
abbrev pub part_place : Facts → ClassName → Option ℕ
part_place f name = option_and_then (λ j. cond (is_serial (sort_in f j)) (Some j) None) (place_of f.names name)

abbrev pub part_by : Facts → ClassName → Form → Option ℕ
part_by f of Single = part_place f of
part_by f of ListForm = part_place f of
part_by f of Array = part_place f of
part_by f of (Relation cardinality inverse) = None

abbrev pub part_of : Facts → PropTree → Option ℕ
part_of f p = part_by f p.of p.form

abbrev pub parts_in : List ClassTree → Facts → ℕ → List ℕ
parts_in trees f i = filter_map (λ s. option_and_then (part_of f) (prop_at trees s)) (spots_in (props_in f i))

abbrev pub part_links : List ClassTree → Facts → List (List ℕ)
part_links trees f = map (parts_in trees f) (count_from 0 (length trees))

abbrev pub has_serial_ring : List ClassTree → Facts → ℕ → Bool
has_serial_ring trees f i = climbs 5 (part_links trees f) i

-- NotYet: a cardinality is `parent` or `children`
abbrev pub is_not_yet : Form → Bool
is_not_yet Single = false
is_not_yet ListForm = false
is_not_yet Array = false
is_not_yet (Relation cardinality inverse) = is_word cardinality (codes "parent") || is_word cardinality (codes "children")

abbrev pub has_not_yet : List ClassTree → List (List ℕ × Spot) → Bool
has_not_yet trees props = any_prop trees props (λ p. is_not_yet p.form)

-- NoInverse: for a side that the class declares, the inverse isn't declared on the named class, or doesn't name
-- this class and property back, or the two cardinalities aren't one and many
abbrev pub is_pair : Option (List ℕ) → Option (List ℕ) → Bool
is_pair a b = (is_word a (codes "one") && is_word b (codes "many")) || (is_word a (codes "many") && is_word b (codes "one"))

abbrev pub answers_side : ClassName → List ℕ → Option (List ℕ) → ClassName → Form → Bool
answers_side me name cardinality of Single = false
answers_side me name cardinality of ListForm = false
answers_side me name cardinality of Array = false
answers_side me name cardinality of (Relation other_cardinality other_inverse) = same_text of.0 me.0 && is_word other_inverse name && is_pair cardinality other_cardinality

abbrev pub is_answer : ClassName → List ℕ → Option (List ℕ) → Option (List ℕ) → PropTree → Bool
is_answer me name cardinality inverse q = is_word inverse q.name && answers_side me name cardinality q.of q.form

abbrev pub lacks_inverse : List ClassTree → Facts → ClassName → List ℕ → ClassName → Form → Bool
lacks_inverse trees f me name of Single = false
lacks_inverse trees f me name of ListForm = false
lacks_inverse trees f me name of Array = false
lacks_inverse trees f me name of (Relation cardinality inverse) =
    not (list_any (is_answer me name cardinality inverse) (own_props (option_and_then (slice_get trees) (place_of f.names of))))

abbrev pub lacks_other_side : List ClassTree → Facts → ClassTree → Bool
lacks_other_side trees f tree = list_any (λ p. lacks_inverse trees f tree.name p.name p.of p.form) tree.props

abbrev pub has_no_inverse : List ClassTree → Facts → ℕ → Bool
has_no_inverse trees f i = option_any (lacks_other_side trees f) (slice_get trees i)

-- UnknownIndexProperty: an index names no property of its class
abbrev pub names_unknown : List (List ℕ × Spot) → Index → Bool
names_unknown props x = list_any (λ n. is_none (spot_of n props)) x.props

abbrev pub has_unknown_index_prop : List ClassTree → List (List ℕ × Spot) → List (List ℕ × Spot) → Bool
has_unknown_index_prop trees props indexes = any_index trees indexes (names_unknown props)

-- BadIndexProperty: an index names a serial part, a collection or a many side
abbrev pub is_unindexed : Facts → ClassName → Form → Bool
is_unindexed f of Single = is_class_of f is_serial of
is_unindexed f of ListForm = true
is_unindexed f of Array = true
is_unindexed f of (Relation cardinality inverse) = is_word cardinality (codes "many")

abbrev pub names_unindexed : List ClassTree → Facts → List (List ℕ × Spot) → Index → Bool
names_unindexed trees f props x = list_any (λ n. option_any (λ p. is_unindexed f p.of p.form) (option_and_then (prop_at trees) (spot_of n props))) x.props

abbrev pub has_bad_index_prop : List ClassTree → Facts → List (List ℕ × Spot) → List (List ℕ × Spot) → Bool
has_bad_index_prop trees f props indexes = any_index trees indexes (names_unindexed trees f props)

-- BadParameter: `MAXLEN`, `MINVAL` or `MAXVAL` isn't a whole number or empty, or `MAXLEN` is below 1
abbrev pub is_no_number : List ℕ → Bool
is_no_number [] = false
is_no_number (b ∷ rest) = is_none (number_of (b ∷ rest))

abbrev pub is_below_one : List ℕ → Bool
is_below_one text = option_any (λ z. int_lt z (pos 1)) (number_of text)

abbrev pub bad_parameter : PropTree → Bool
bad_parameter p =
    option_any (λ t. is_no_number t || is_below_one t) p.max_len || option_any is_no_number p.min_val || option_any is_no_number p.max_val

abbrev pub has_bad_parameter : List ClassTree → List (List ℕ × Spot) → Bool
has_bad_parameter trees props = any_prop trees props bad_parameter
