-- What the reasons look at: what the class trees say of all classes.
use Rattle.std.specs.Prelude.{ℕ, zero, suc, ◌+◌, Bool, false, List, [], ◌∷◌, map, length, slice_get, Option, Some, None}
use Rattle.std.specs.List.{list_any}
use Rattle.obj_kinds.specs.declared.name.ClassName.{ClassName}
use Rattle.schema_kinds.specs.declared.class.Index.{Index}
use Rattle.schema_kinds.specs.declared.class.Sort.{Sort}
use Rattle.schema_kinds.specs.declared.tree.ClassTree.{ClassTree}
use Rattle.schema_kinds.specs.declared.tree.PropTree.{PropTree}
use Rattle.schema_kinds.specs.declared.hierarchy.Hierarchy.{Hierarchy}
use Rattle.schema_kinds.specs.Hierarchy.{firsts_of, place_of}
use Rattle.class_facts.specs.declared.spots.Spot.{Spot}
use Rattle.class_facts.specs.declared.members.Members.{Members}
use Rattle.class_facts.specs.declared.tables.Tables.{Tables}
use Rattle.class_facts.specs.Trees.{headers_of, tree_names, super_links, top_of, sort_or_plain, sort_of, members_of, prop_at, index_at, spots_in}

-- the places from one on, so many
abbrev pub count_from : ℕ → ℕ → List ℕ
count_from start zero = []
count_from start (suc k) = start ∷ count_from (start + 1) k

-- the places of all classes
abbrev pub places_of : List ClassTree → List ℕ
places_of trees = count_from 0 (length trees)

pub record Facts : Type 0 where
  pub names : List (List ℕ)
  pub links : List (List ℕ)
  pub firsts : List (Option ℕ)
  pub sorts : List Sort
  pub tops : List ℕ
  pub members : List Members

abbrev pub facts_of : List ClassTree → Facts
facts_of trees = record {
  names = tree_names trees;
  links = super_links trees;
  firsts = firsts_of (headers_of trees);
  sorts = map (λ i. sort_of trees i) (places_of trees);
  tops = map (λ i. top_of trees i) (places_of trees);
  members = map (λ i. members_of trees i) (places_of trees);
}

-- the same, as the tables hold it
abbrev pub seen : Hierarchy → Tables → Facts
seen h t = record { names = h.names; links = h.links; firsts = h.firsts; sorts = t.sorts; tops = t.tops; members = t.members }

abbrev pub sort_in : Facts → ℕ → Sort
sort_in f i = sort_or_plain (slice_get f.sorts i)

-- an option has a value that passes the test
abbrev pub option_any : {X : Type 0} → (X → Bool) → Option X → Bool
option_any test None = false
option_any test (Some x) = test x

-- the class of that name is listed and of a sort that passes the test
abbrev pub is_class_of : Facts → (Sort → Bool) → ClassName → Bool
is_class_of f test name = option_any (λ j. test (sort_in f j)) (place_of f.names name)

abbrev pub prop_pairs : Option Members → List (List ℕ × Spot)
prop_pairs None = []
prop_pairs (Some m) = m.props

abbrev pub index_pairs : Option Members → List (List ℕ × Spot)
index_pairs None = []
index_pairs (Some m) = m.indexes

-- the members of a class with their names, the inherited ones first
abbrev pub props_in : Facts → ℕ → List (List ℕ × Spot)
props_in f i = prop_pairs (slice_get f.members i)

abbrev pub indexes_in : Facts → ℕ → List (List ℕ × Spot)
indexes_in f i = index_pairs (slice_get f.members i)

-- some property of the class passes the test, an inherited one or its own
abbrev pub any_prop : List ClassTree → List (List ℕ × Spot) → (PropTree → Bool) → Bool
any_prop trees props test = list_any (λ s. option_any test (prop_at trees s)) (spots_in props)

-- and some index
abbrev pub any_index : List ClassTree → List (List ℕ × Spot) → (Index → Bool) → Bool
any_index trees indexes test = list_any (λ e. option_any test (index_at trees e.1)) indexes
