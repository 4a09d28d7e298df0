-- The objects that nodes give: which record the nodes of a key are.
use Rattle.std.specs.Prelude.{◌≡◌, ◌↔◌, List, filter, None, Some}
use Rattle.std.specs.FinMap.{get}
use Rattle.obj_kinds.specs.declared.node.Node.{Node}
use Rattle.obj_kinds.specs.declared.value.Value.{Value}
use Rattle.obj_kinds.specs.Order.{covers}
use Rattle.schema_kinds.specs.declared.class.Class.{Class}
use Rattle.schema_kinds.specs.declared.key.Key.{Key}
use Rattle.schema_kinds.specs.declared.record.Record.{Record}
use Rattle.schema_kinds.specs.Worlds.{World}
use Rattle.record_layout.specs.Rows.{data_node}
use Rattle.record_layout.specs.Reading.{Read}
use Rattle.storage_map.specs.Worlds.{IsKeyOf}
use Rattle.record_reading.specs.Rows.{read_record}
use Rattle.record_reading.specs.Damage.{damage}

-- nodes in rising order, with their values
abbrev pub Told : Type 0
Told = List (Node × Value)

-- those at a row and below it
abbrev pub nodes_under : Node → Told → Told
nodes_under row nodes = filter (λ e. covers row e.0) nodes

-- the nodes of a key
abbrev pub nodes_of : Told → Key → Told
nodes_of nodes key = nodes_under (data_node key) nodes

-- the key's nodes give this record
pub record IsObject (classes : List Class) (nodes : Told) (key : Key) (r : Record) : Type 0 where
  pub real : IsKeyOf classes key
  pub whole : damage classes key (nodes_of nodes key) ≡ None
  pub reads : read_record classes key (nodes_of nodes key) ≡ Read r

-- the world has the records that the nodes give, and no others
abbrev pub IsWorldOf : List Class → Told → World → Type 0
IsWorldOf classes nodes w = (key : Key) (r : Record) → (get w key ≡ Some r) ↔ IsObject classes nodes key r
