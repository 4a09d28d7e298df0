-- Sound worlds: records in shape under keys of their extents, no unique key twice, and no one side that leads nowhere.
use Rattle.std.specs.Prelude.{◌≡◌, ◌≢◌, ◌⊎◌, Bool, true, ◌&&◌, List, [], ◌∷◌, ℕ, Option, Some, None}
use Rattle.std.specs.List.{list_all, list_any}
use Rattle.std.specs.FinMap.{get}
use Rattle.obj_kinds.specs.declared.node.Node.{Node}
use Rattle.obj_kinds.specs.Limits.{is_legal_node, is_legal_value}
use Rattle.schema_kinds.specs.declared.class.Class.{Class}
use Rattle.schema_kinds.specs.declared.key.Key.{Key}
use Rattle.schema_kinds.specs.declared.record.Record.{Record}
use Rattle.schema_kinds.specs.Classes.{IsBelow}
use Rattle.schema_kinds.specs.Worlds.{World}
use Rattle.record_layout.specs.Rows.{row_list}
use Rattle.storage_map.specs.Entries.{has_legal_entries}
use Rattle.storage_map.specs.Worlds.{IsKeyOf, IsRecordOf}
use Rattle.storage_map.specs.Keys.{Side, uniques_of, sides_of, target_key, same_node}

-- each node of the record and its value, and each of its entries, is within the limits
unfoldable pub passes_no_limit : List Class → Key → Record → Bool
passes_no_limit classes key r = list_all (λ e. is_legal_node e.0 && is_legal_value e.1) (row_list classes key r) && has_legal_entries classes key r

-- one of the unique indexes of the record has this key node
abbrev pub has_key_node : List Class → Key → Record → Node → Bool
has_key_node classes key r n = list_any (λ u. same_node u.node (Some n)) (uniques_of classes key r)

-- two keys with one key node; the node tells the extent, the index and the values
pub record Clash (classes : List Class) (w : World) (a b : Key) : Type 0 where
  pub node : Node
  pub one : Record
  pub other : Record
  pub apart : a ≢ b
  pub first : (get w a ≡ Some one) × (has_key_node classes a one node ≡ true)
  pub second : (get w b ≡ Some other) × (has_key_node classes b other node ≡ true)

-- the key has an extent of the schema and an id of it, and the record is one of it
pub record IsSoundAt (classes : List Class) (key : Key) (r : Record) : Type 0 where
  pub key_of : IsKeyOf classes key
  pub record_of : IsRecordOf classes key r
  pub limits : passes_no_limit classes key r ≡ true

abbrev pub HasSide : Side → List Side → Type 0
HasSide s [] = ⊥
HasSide s (t ∷ ts) = (s ≡ t) ⊎ HasSide s ts

-- the side's target, where it has one, is in the world, at or below the declared class
abbrev pub IsMet : List Class → World → Side → Option (List ℕ) → Type 0
IsMet classes w s None = Unit {0}
IsMet classes w s (Some id) = (r : Record) × (get w (target_key classes s.class id) ≡ Some r) × IsBelow classes r.class s.class

pub record IsSound (classes : List Class) (w : World) : Type 0 where
  pub records : (key : Key) (r : Record) → get w key ≡ Some r → IsSoundAt classes key r
  pub apart : (a b : Key) → Clash classes w a b → ⊥
  pub targets : (key : Key) (r : Record) (s : Side) → get w key ≡ Some r → HasSide s (sides_of classes r) → IsMet classes w s s.target
