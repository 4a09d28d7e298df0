-- The nodes by which the globals of a schema are no sound world's with right counters: each point of the list, and the least of all.
use Rattle.std.specs.Prelude.{◌≡◌, ◌≢◌, ℕ, ◌<◌, true, List, [], ◌∷◌, ◌++◌, Option, None, Some}
use Rattle.std.specs.declared.cmp.Ordering.TheVariants.{Less}
use Rattle.std.specs.FinMap.{find}
use Rattle.obj_kinds.specs.declared.name.ClassName.{ClassName}
use Rattle.obj_kinds.specs.declared.node.Node.{Node}
use Rattle.obj_kinds.specs.declared.value.Value.{Value}
use Rattle.obj_kinds.specs.Ids.{id_text}
use Rattle.obj_kinds.specs.Subscript.{sub_of}
use Rattle.obj_kinds.specs.Order.{node_cmp}
use Rattle.schema_kinds.specs.declared.class.Class.{Class}
use Rattle.schema_kinds.specs.declared.key.Key.{Key}
use Rattle.schema_kinds.specs.declared.record.Record.{Record}
use Rattle.schema_kinds.specs.Classes.{IsBelow}
use Rattle.storage_map.specs.Entries.{entry_node}
use Rattle.storage_map.specs.Worlds.{owner, stands_at}
use Rattle.storage_map.specs.Keys.{Side, sides_of, target_key}
use Rattle.storage_map.specs.SoundWorlds.{HasSide, has_key_node}
use Rattle.record_reading.specs.Damage.{damage}
use Rattle.world_audit.specs.Objects.{Told, nodes_of, IsObject}
use Rattle.world_audit.specs.Openings.{is_object_node, is_extent_of, counter_node, first_number, Counts}

-- a node of the schema, counters aside, with its value
pub record IsStored (classes : List Class) (nodes : Told) (n : Node) (v : Value) : Type 0 where
  pub there : find node_cmp n nodes ≡ Some v
  pub own : is_object_node classes n ≡ true

-- ---- nodes

-- a node that belongs to no key
pub record IsStray (classes : List Class) (nodes : Told) (n : Node) : Type 0 where
  pub value : Value
  pub stored : IsStored classes nodes n value
  pub none : owner classes n ≡ None

-- a node that isn't in the rows or entries of the record that its key's nodes give, or has another value there
pub record IsStrange (classes : List Class) (nodes : Told) (n : Node) : Type 0 where
  pub value : Value
  pub stored : IsStored classes nodes n value
  pub key : Key
  pub belongs : owner classes n ≡ Some key
  pub own : Record
  pub object : IsObject classes nodes key own
  pub differs : stands_at classes key n own ≢ Some value

-- the node that tells why a key to which some node belongs is no object
pub record IsBroken (classes : List Class) (nodes : Told) (n : Node) : Type 0 where
  pub some_node : Node
  pub value : Value
  pub stored : IsStored classes nodes some_node value
  pub key : Key
  pub belongs : owner classes some_node ≡ Some key
  pub broken : damage classes key (nodes_of nodes key) ≡ Some n

-- a node of the rows and entries of a record that is missing
pub record IsMissing (classes : List Class) (nodes : Told) (n : Node) : Type 0 where
  pub key : Key
  pub own : Record
  pub object : IsObject classes nodes key own
  pub value : Value
  pub stands : stands_at classes key n own ≡ Some value
  pub missing : find node_cmp n nodes ≡ None

-- ---- unique keys

-- the entry of an object below a key's node
abbrev pub entry_below : Node → Key → Node
entry_below node key = record { global = node.global; subs = node.subs ++ sub_of (id_text key.id) ∷ [] }

-- an object with this key of a unique index
pub record HasKeyNode (classes : List Class) (nodes : Told) (key : Key) (node : Node) : Type 0 where
  pub own : Record
  pub object : IsObject classes nodes key own
  pub has : has_key_node classes key own node ≡ true

-- of two equal keys of a unique index the entry that is later in node order
pub record IsSecond (classes : List Class) (nodes : Told) (n : Node) : Type 0 where
  pub node : Node
  pub first : Key
  pub second : Key
  pub apart : first ≢ second
  pub first_has : HasKeyNode classes nodes first node
  pub second_has : HasKeyNode classes nodes second node
  pub later : node_cmp (entry_below node first) (entry_below node second) ≡ Less
  pub entry : n ≡ entry_below node second

-- ---- one sides

-- the target is an object at or below the declared class; no target is needed where the side is empty
abbrev pub IsMetBy : List Class → Told → Side → Option (List ℕ) → Type 0
IsMetBy classes nodes s None = Unit {0}
IsMetBy classes nodes s (Some id) = (r : Record) × IsObject classes nodes (target_key classes s.class id) r × IsBelow classes r.class s.class

-- the entry of a one side with a target
abbrev pub entry_of_side : Key → List ℕ → List ℕ → Node
entry_of_side key name id = entry_node key name (sub_of (id_text id) ∷ [])

-- the entry of a one side without a target in a class at or below the declared one
pub record IsUntargeted (classes : List Class) (nodes : Told) (n : Node) : Type 0 where
  pub key : Key
  pub own : Record
  pub object : IsObject classes nodes key own
  pub side : Side
  pub has : HasSide side (sides_of classes own)
  pub id : List ℕ
  pub names : side.target ≡ Some id
  pub unmet : IsMetBy classes nodes side (Some id) → ⊥
  pub entry : n ≡ entry_of_side key side.name id

-- ---- counters

-- a counter that isn't absent, and no whole number from 0 on as it is written
pub record IsNoCount (classes : List Class) (nodes : Told) (n : Node) : Type 0 where
  pub extent : ClassName
  pub real : is_extent_of classes extent ≡ true
  pub node : n ≡ counter_node extent
  pub none : (number : ℕ) → Counts (find node_cmp n nodes) number → ⊥

-- a counter that is below the id of an object of its extent
pub record IsBelowId (classes : List Class) (nodes : Told) (n : Node) : Type 0 where
  pub key : Key
  pub own : Record
  pub object : IsObject classes nodes key own
  pub node : n ≡ counter_node key.extent
  pub number : ℕ
  pub counts : Counts (find node_cmp n nodes) number
  pub low : number < first_number key.id

-- ---- all of them

pub data IsFault (classes : List Class) (nodes : Told) (n : Node) : Type 0 where
  stray : IsStray classes nodes n → IsFault classes nodes n
  strange : IsStrange classes nodes n → IsFault classes nodes n
  broken : IsBroken classes nodes n → IsFault classes nodes n
  missing : IsMissing classes nodes n → IsFault classes nodes n
  second : IsSecond classes nodes n → IsFault classes nodes n
  untargeted : IsUntargeted classes nodes n → IsFault classes nodes n
  no_count : IsNoCount classes nodes n → IsFault classes nodes n
  below_id : IsBelowId classes nodes n → IsFault classes nodes n

-- a fault before which none stands in node order
pub record IsLeastFault (classes : List Class) (nodes : Told) (n : Node) : Type 0 where
  pub fault : IsFault classes nodes n
  pub least : (m : Node) → IsFault classes nodes m → node_cmp m n ≢ Less

-- each one side of an object has its target
abbrev pub AreTargeted : List Class → Told → Type 0
AreTargeted classes nodes = (key : Key) (r : Record) (s : Side) → IsObject classes nodes key r → HasSide s (sides_of classes r) → IsMetBy classes nodes s s.target

-- no node is a fault
pub record IsFaultless (classes : List Class) (nodes : Told) : Type 0 where
  pub none : (n : Node) → IsFault classes nodes n → ⊥
  pub targeted : AreTargeted classes nodes
