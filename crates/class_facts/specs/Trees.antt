-- What the class trees say: names, superclasses, sorts, and members with all that is inherited.
use Rattle.std.specs.Prelude.{ℕ, zero, suc, ◌+◌, cond, List, [], ◌∷◌, ◌++◌, map, filter_map, fold, length, codes, slice_get, Option, Some, None, option_and_then}
use Rattle.obj_kinds.specs.declared.name.ClassName.{ClassName}
use Rattle.schema_kinds.specs.declared.class.Index.{Index}
use Rattle.schema_kinds.specs.declared.class.Sort.{Sort}
use Rattle.schema_kinds.specs.declared.class.Sort.TheVariants.{Persistent, Serial, Registered, Plain}
use Rattle.schema_kinds.specs.declared.tree.ClassTree.{ClassTree}
use Rattle.schema_kinds.specs.declared.tree.PropTree.{PropTree}
use Rattle.schema_kinds.specs.declared.hierarchy.Header.{Header}
use Rattle.schema_kinds.specs.Links.{row}
use Rattle.schema_kinds.specs.Hierarchy.{same_text, names_of, links_of, firsts_of, chain, top}
use Rattle.class_facts.specs.declared.spots.Spot.{Spot}
use Rattle.class_facts.specs.declared.members.Members.{Members}
use Rattle.class_facts.specs.Spots.{add_spots, put_spots, gather_spots}

abbrev pub header_of : ClassTree → Header
header_of tree = record { name = tree.name; supers = tree.supers }

abbrev pub headers_of : List ClassTree → List Header
headers_of trees = map header_of trees

abbrev pub tree_names : List ClassTree → List (List ℕ)
tree_names trees = names_of (headers_of trees)

-- the listed superclasses of each class, by their places
abbrev pub super_links : List ClassTree → List (List ℕ)
super_links trees = links_of (headers_of trees)

-- the classes from one on along the first superclasses up to the root, and the root
abbrev pub chain_of : List ClassTree → ℕ → List ℕ
chain_of trees i = chain (length trees) (firsts_of (headers_of trees)) i

abbrev pub top_of : List ClassTree → ℕ → ℕ
top_of trees i = top (length trees) (firsts_of (headers_of trees)) i

-- the sort that a system class gives to those below it
abbrev pub system_sort : ClassName → Option Sort
system_sort name =
    cond (same_text name.0 (codes "%Persistent")) (Some Persistent)
    (cond (same_text name.0 (codes "%SerialObject")) (Some Serial)
    (cond (same_text name.0 (codes "%RegisteredObject")) (Some Registered) None))

abbrev pub sort_or_plain : Option Sort → Sort
sort_or_plain None = Plain
sort_or_plain (Some sort) = sort

abbrev pub sort_above : List ClassName → Sort
sort_above [] = Plain
sort_above (s ∷ ss) = sort_or_plain (system_sort s)

abbrev pub supers_of : Option ClassTree → List ClassName
supers_of None = []
supers_of (Some tree) = tree.supers

-- a class has the sort of its first superclass, so that which stands above its root; without one it is plain
abbrev pub sort_of : List ClassTree → ℕ → Sort
sort_of trees i = sort_above (supers_of (slice_get trees (top_of trees i)))

-- the members that a class declares
abbrev pub own_props : Option ClassTree → List PropTree
own_props None = []
own_props (Some tree) = tree.props

abbrev pub own_indexes : Option ClassTree → List Index
own_indexes None = []
own_indexes (Some tree) = tree.indexes

abbrev pub prop_spots : ℕ → ℕ → List PropTree → List (List ℕ × Spot)
prop_spots class from [] = []
prop_spots class from (p ∷ ps) = (p.name, record { class = class; place = from }) ∷ prop_spots class (from + 1) ps

abbrev pub index_spots : ℕ → ℕ → List Index → List (List ℕ × Spot)
index_spots class from [] = []
index_spots class from (x ∷ xs) = (x.name, record { class = class; place = from }) ∷ index_spots class (from + 1) xs

-- those of the superclasses in order; a name that an earlier superclass gives is left to it
abbrev pub inherited_props : List Members → List (List ℕ × Spot)
inherited_props supers = fold (λ spots m. add_spots spots m.props) [] supers

abbrev pub inherited_indexes : List Members → List (List ℕ × Spot)
inherited_indexes supers = fold (λ spots m. gather_spots spots m.indexes) [] supers

-- the inherited members and then the class's own; a property that is declared again takes the place of the inherited one
abbrev pub members_with : List ClassTree → ℕ → List Members → Members
members_with trees i supers = record {
  props = put_spots (inherited_props supers) (prop_spots i 0 (own_props (slice_get trees i)));
  indexes = inherited_indexes supers ++ index_spots i 0 (own_indexes (slice_get trees i));
}

abbrev pub members_up : ℕ → List ClassTree → ℕ → Members
members_up zero trees i = members_with trees i []
members_up (suc n) trees i = members_with trees i (map (λ s. members_up n trees s) (row (super_links trees) i))

-- all members of a class; no class has more above it than there are classes
abbrev pub members_of : List ClassTree → ℕ → Members
members_of trees i = members_up (length trees) trees i

-- what is declared at a spot
abbrev pub prop_at : List ClassTree → Spot → Option PropTree
prop_at trees spot = option_and_then (λ tree. slice_get tree.props spot.place) (slice_get trees spot.class)

abbrev pub index_at : List ClassTree → Spot → Option Index
index_at trees spot = option_and_then (λ tree. slice_get tree.indexes spot.place) (slice_get trees spot.class)

abbrev pub spots_in : List (List ℕ × Spot) → List Spot
spots_in pairs = map (λ e. e.1) pairs

-- the properties and the indexes of a class, the inherited ones first
abbrev pub props_of : List ClassTree → ℕ → List PropTree
props_of trees i = filter_map (prop_at trees) (spots_in (members_of trees i).props)

abbrev pub indexes_of : List ClassTree → ℕ → List Index
indexes_of trees i = filter_map (index_at trees) (spots_in (members_of trees i).indexes)
