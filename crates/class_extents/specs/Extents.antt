-- What clashes in an extent, and the limits of numbers.
use Rattle.std.specs.Prelude.{ℕ, Bool, true, false, cond, not, ◌&&◌, ◌||◌, List, [], ◌∷◌, ◌++◌, filter_map, fold, length, codes, nat_eq, nat_lt, Option, Some, None, option_and_then, option_map, slice_get}
use Rattle.std.specs.List.{list_any}
use Rattle.schema_kinds.specs.declared.class.Index.{Index}
use Rattle.schema_kinds.specs.declared.method.Method.{Method}
use Rattle.schema_kinds.specs.declared.tree.ClassTree.{ClassTree}
use Rattle.schema_kinds.specs.declared.tree.PropTree.{PropTree}
use Rattle.schema_kinds.specs.declared.tree.Form.{Form}
use Rattle.schema_kinds.specs.declared.tree.Form.TheVariants.{Single, List as ListForm, Array, Relation}
use Rattle.schema_kinds.specs.Links.{climbs}
use Rattle.schema_kinds.specs.Hierarchy.{same_text, chain}
use Rattle.schema_kinds.specs.Classes.{is_persistent, short_name}
use Rattle.class_facts.specs.declared.spots.Spot.{Spot}
use Rattle.class_extents.specs.declared.entry.Entry.{Entry}
use Rattle.class_facts.specs.Spots.{spot_of}
use Rattle.class_facts.specs.Trees.{prop_at, index_at, spots_in}
use Rattle.class_facts.specs.declared.members.Members.{Members}
use Rattle.class_facts.specs.Facts.{Facts, count_from, sort_in, option_any, prop_pairs, props_in, indexes_in, any_index}
use Rattle.class_facts.specs.Words.{same_word, is_word}

-- a class is of the extent of this root
abbrev pub is_in_extent : Facts → ℕ → ℕ → Bool
is_in_extent f root i = is_persistent (sort_in f i) && option_any (λ t. nat_eq t root) (slice_get f.tops i)

abbrev pub is_one_side : Form → Bool
is_one_side Single = false
is_one_side ListForm = false
is_one_side Array = false
is_one_side (Relation cardinality inverse) = is_word cardinality (codes "one")

-- each one side counts as an index of its name
abbrev pub side_by : Spot → PropTree → Option Entry
side_by s p = cond (is_one_side p.form) (Some (record { is_side = true; spot = s; on = None })) None

abbrev pub side_entry : List ClassTree → Spot → Option Entry
side_entry trees s = option_and_then (side_by s) (prop_at trees s)

-- the property that an index is on, where it is on one alone and isn't unique
abbrev pub only_on : List (List ℕ × Spot) → List (List ℕ) → Option Spot
only_on props [] = None
only_on props (n ∷ []) = spot_of n props
only_on props (n ∷ m ∷ more) = None

abbrev pub alone_on : List (List ℕ × Spot) → Index → Option Spot
alone_on props x = cond x.unique None (only_on props x.props)

-- its property is that of the class which declares it
abbrev pub index_entry : List ClassTree → List Members → Spot → Option Entry
index_entry trees all s = option_map (λ x. record { is_side = false; spot = s; on = alone_on (prop_pairs (slice_get all s.class)) x }) (index_at trees s)

-- what the objects of a class with these members have entries of
abbrev pub entries_with : List ClassTree → List Members → List (List ℕ × Spot) → List (List ℕ × Spot) → List Entry
entries_with trees all props indexes = filter_map (side_entry trees) (spots_in props) ++ filter_map (index_entry trees all) (spots_in indexes)

abbrev pub entries_in : List ClassTree → Facts → ℕ → List Entry
entries_in trees f i = entries_with trees f.members (props_in f i) (indexes_in f i)

abbrev pub same_spot : Spot → Spot → Bool
same_spot a b = nat_eq a.class b.class && nat_eq a.place b.place

abbrev pub same_on : Option Spot → Option Spot → Bool
same_on None None = true
same_on None (Some b) = false
same_on (Some a) None = false
same_on (Some a) (Some b) = same_spot a b

abbrev pub same_mark : Bool → Bool → Bool
same_mark true b = b
same_mark false b = not b

abbrev pub same_entry : Entry → Entry → Bool
same_entry e f = same_mark e.is_side f.is_side && same_spot e.spot f.spot && same_on e.on f.on

abbrev pub add_entry : List Entry → Entry → List Entry
add_entry entries e = cond (list_any (same_entry e) entries) entries (entries ++ e ∷ [])

abbrev pub add_entries_if : Bool → List Entry → List Entry → List Entry
add_entries_if true entries more = fold add_entry entries more
add_entries_if false entries more = entries

-- those of all classes of an extent, each once
abbrev pub extent_entries : List ClassTree → Facts → ℕ → List Entry
extent_entries trees f root = fold (λ entries i. add_entries_if (is_in_extent f root i) entries (entries_in trees f i)) [] (count_from 0 (length trees))

abbrev pub entry_name : List ClassTree → Entry → Option (List ℕ)
entry_name trees e = cond e.is_side (option_map (λ p. p.name) (prop_at trees e.spot)) (option_map (λ x. x.name) (index_at trees e.spot))

-- an index that is on a one side alone and isn't unique may have its name
abbrev pub is_on_side : Entry → Entry → Bool
is_on_side side index = side.is_side && not index.is_side && option_any (same_spot side.spot) index.on

abbrev pub is_same_index : Entry → Entry → Bool
is_same_index e f = same_mark e.is_side f.is_side && same_spot e.spot f.spot

-- two indexes have one name
abbrev pub clashes : List ClassTree → Entry → Entry → Bool
clashes trees e f = same_word (entry_name trees e) (entry_name trees f) && not (is_same_index e f) && not (is_on_side e f) && not (is_on_side f e)

abbrev pub clash_in : List ClassTree → List Entry → List Entry → Bool
clash_in trees entries extent = list_any (λ e. list_any (clashes trees e) extent) entries

-- the short names of the classes from one up to its root, and the names of its arrays: those of the subnodes of a row
abbrev pub short_at : List ClassTree → ℕ → Option (List ℕ)
short_at trees i = option_map (λ t. short_name t.name) (slice_get trees i)

abbrev pub is_array : Form → Bool
is_array Single = false
is_array ListForm = false
is_array Array = true
is_array (Relation cardinality inverse) = false

abbrev pub array_by : PropTree → Option (List ℕ)
array_by p = cond (is_array p.form) (Some p.name) None

abbrev pub array_at : List ClassTree → Spot → Option (List ℕ)
array_at trees s = option_and_then array_by (prop_at trees s)

abbrev pub subnodes : List ClassTree → Facts → ℕ → List (List ℕ × Spot) → List (List ℕ)
subnodes trees f i props = filter_map (short_at trees) (chain (length trees) f.firsts i) ++ filter_map (array_at trees) (spots_in props)

abbrev pub repeats : List (List ℕ) → List (List ℕ) → Bool
repeats seen [] = false
repeats seen (w ∷ ws) = list_any (same_text w) seen || repeats (seen ++ w ∷ []) ws

abbrev pub entries_at : List ClassTree → Facts → Option ℕ → List Entry
entries_at trees f None = []
entries_at trees f (Some root) = extent_entries trees f root

-- what all classes of a class's extent have entries of
abbrev pub extent_of : List ClassTree → Facts → ℕ → List Entry
extent_of trees f i = entries_at trees f (slice_get f.tops i)

-- NameClash: two indexes of one extent have one name, or two names of subnodes are equal
abbrev pub has_name_clash : List ClassTree → Facts → ℕ → List (List ℕ × Spot) → List (List ℕ × Spot) → Bool
has_name_clash trees f i props indexes =
    is_persistent (sort_in f i) && (clash_in trees (entries_with trees f.members props indexes) (extent_of trees f i) || repeats [] (subnodes trees f i props))

-- the declared indexes among the entries, each once
abbrev pub add_distinct : List Spot → Entry → List Spot
add_distinct spots e = cond (e.is_side || list_any (same_spot e.spot) spots) spots (spots ++ e.spot ∷ [])

abbrev pub declared_indexes : List Entry → List Spot
declared_indexes entries = fold add_distinct [] entries

-- TooMany: a limit is passed
abbrev pub long_method : Method → Bool
long_method m = nat_lt 16 (length m.args)

abbrev pub long_tree : ClassTree → Bool
long_tree tree = nat_lt 500 (length tree.methods) || list_any long_method tree.methods

abbrev pub long_index : Index → Bool
long_index x = nat_lt 3 (length x.props)

abbrev pub has_too_many : List ClassTree → Facts → ℕ → List (List ℕ × Spot) → List (List ℕ × Spot) → Bool
has_too_many trees f i props indexes =
    nat_eq i 500 || climbs 17 f.links i || nat_lt 200 (length props)
    || option_any long_tree (slice_get trees i)
    || any_index trees indexes long_index
    || (is_persistent (sort_in f i) && nat_lt 50 (length (declared_indexes (extent_of trees f i))))
