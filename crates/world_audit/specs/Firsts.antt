-- Keys of unique indexes, and for each of their nodes the least id that has it.
use Rattle.std.specs.Prelude.{ℕ, Bool, true, false, cond, List, [], ◌∷◌, ◌++◌, Option, None, Some, option_map, option_to_list}
use Rattle.std.specs.Ordering.{is_lt, is_eq, nat_cmp}
use Rattle.std.specs.Cmp.Lexicographic.{slice_cmp}
use Rattle.std.specs.FinMap.{find}
use Rattle.std.specs.BTreeMap.{insert_entry}
use Rattle.obj_kinds.specs.declared.node.Node.{Node}
use Rattle.obj_kinds.specs.Order.{node_cmp}
use Rattle.schema_kinds.specs.declared.class.Class.{Class}
use Rattle.schema_kinds.specs.declared.class.Index.{Index}
use Rattle.schema_kinds.specs.declared.key.Key.{Key}
use Rattle.schema_kinds.specs.declared.prop.Prop.{Prop}
use Rattle.schema_kinds.specs.declared.record.Field.{Field}
use Rattle.schema_kinds.specs.declared.record.Record.{Record}
use Rattle.schema_kinds.specs.Classes.{class_of}
use Rattle.storage_map.specs.Entries.{index_key, key_node, indexes_of, props_in, with_fields}
use Rattle.world_audit.specs.declared.found.Found.{Found}
use Rattle.world_audit.specs.Faults.{entry_below}
use Rattle.world_audit.specs.Finds.{Finds, of_whole}

-- the node of a unique index's key, where it has one
abbrev pub unique_node : Key → List (Prop × Field) → Index → Option Node
unique_node key valued i = cond i.unique (option_map (key_node key i.name) (index_key i valued)) None

abbrev pub unique_nodes : Key → List (Prop × Field) → List Index → List Node
unique_nodes key valued [] = []
unique_nodes key valued (i ∷ is) = option_to_list (unique_node key valued i) ++ unique_nodes key valued is

-- those of a record
unfoldable pub record_nodes : List Class → Key → Record → List Node
record_nodes classes key r = let c = class_of classes r.class in unique_nodes key (with_fields (props_in c) r.fields) (indexes_of c)

abbrev pub nodes_of_found : List Class → Key × Found → List Node
nodes_of_found classes e = of_whole e.1 (record_nodes classes e.0)

-- ---- the least id of each node

abbrev pub Firsts : Type 0
Firsts = List (Node × List ℕ)

-- an id before the one that is known, or the first
abbrev pub is_earlier : Option (List ℕ) → List ℕ → Bool
is_earlier None id = true
is_earlier (Some known) id = is_lt (slice_cmp nat_cmp id known)

abbrev pub put_first : Firsts → List ℕ → Node → Firsts
put_first firsts id n = cond (is_earlier (find node_cmp n firsts) id) (insert_entry node_cmp firsts n id) firsts

abbrev pub put_firsts : Firsts → List ℕ → List Node → Firsts
put_firsts firsts id [] = firsts
put_firsts firsts id (n ∷ ns) = put_firsts (put_first firsts id n) id ns

abbrev pub firsts_of : List Class → Firsts → Finds → Firsts
firsts_of classes firsts [] = firsts
firsts_of classes firsts (e ∷ es) = firsts_of classes (put_firsts firsts e.0.id (nodes_of_found classes e)) es

-- ---- those that have not the least id

abbrev pub is_first : Option (List ℕ) → List ℕ → Bool
is_first None id = false
is_first (Some known) id = is_eq (slice_cmp nat_cmp known id)

abbrev pub second_of : Firsts → Key → Node → List Node
second_of firsts key n = cond (is_first (find node_cmp n firsts) key.id) [] (entry_below n key ∷ [])

abbrev pub seconds_for : Firsts → Key × Found → Node → List Node
seconds_for firsts e n = second_of firsts e.0 n
