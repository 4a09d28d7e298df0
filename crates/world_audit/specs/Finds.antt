-- What the nodes of each key give, for all keys of rows.
use Rattle.std.specs.Prelude.{cond, List, [], ◌∷◌, Option, None, Some, is_some}
use Rattle.std.specs.List.{filter_map}
use Rattle.std.specs.FinMap.{find}
use Rattle.std.specs.BTreeMap.{insert_entry}
use Rattle.obj_kinds.specs.declared.node.Node.{Node}
use Rattle.schema_kinds.specs.declared.class.Class.{Class}
use Rattle.schema_kinds.specs.declared.key.Key.{Key}
use Rattle.schema_kinds.specs.declared.record.Record.{Record}
use Rattle.schema_kinds.specs.Worlds.{key_cmp}
use Rattle.record_layout.specs.Rows.{data_node}
use Rattle.record_layout.specs.Reading.{Reading, Read, Damaged}
use Rattle.record_reading.specs.Damage.{damage}
use Rattle.record_reading.specs.Rows.{read_record}
use Rattle.world_audit.specs.declared.found.Found.{Found}
use Rattle.world_audit.specs.declared.found.Found.TheVariants.{Whole, Broken}
use Rattle.world_audit.specs.Objects.{Told, nodes_of}
use Rattle.world_audit.specs.Owners.{row_key}

-- in the order of keys
abbrev pub Finds : Type 0
Finds = List (Key × Found)

abbrev pub found_by : Key → Option Node → Reading Record → Found
found_by key (Some n) reading = Broken n
found_by key None (Read r) = Whole r
found_by key None (Damaged way) = Broken (data_node key)

-- the record that the key's nodes give, or the node that tells why they give none
unfoldable pub found_at : List Class → Told → Key → Found
found_at classes nodes key = found_by key (damage classes key (nodes_of nodes key)) (read_record classes key (nodes_of nodes key))

-- a key more, where it isn't known yet
abbrev pub with_key : List Class → Told → Finds → Option Key → Finds
with_key classes nodes finds None = finds
with_key classes nodes finds (Some key) = cond (is_some (find key_cmp key finds)) finds (insert_entry key_cmp finds key (found_at classes nodes key))

-- the keys of the rows of all these nodes
abbrev pub with_nodes : List Class → Told → Finds → Told → Finds
with_nodes classes nodes finds [] = finds
with_nodes classes nodes finds (e ∷ es) = with_nodes classes nodes (with_key classes nodes finds (row_key classes e.0)) es

-- what is said of a whole record
abbrev pub of_whole : {A : Type 0} → Found → (Record → List A) → List A
of_whole (Whole r) f = f r
of_whole (Broken n) f = []

abbrev pub broken_in : Found → List Node
broken_in (Whole r) = []
broken_in (Broken n) = n ∷ []

abbrev pub broken_of : Key × Found → List Node
broken_of e = broken_in e.1

abbrev pub with_own : Key → Found → Option (Key × Record)
with_own key (Whole r) = Some (key, r)
with_own key (Broken n) = None

abbrev pub whole_in : Key × Found → Option (Key × Record)
whole_in e = with_own e.0 e.1

-- the whole records with their keys
abbrev pub wholes : Finds → List (Key × Record)
wholes finds = filter_map whole_in finds
