-- Laws of the nodes of records.
use Rattle.std.specs.Prelude.{◌≡◌, true, List, Some}
use Rattle.std.specs.FinMap.{get, entries as listed}
use Rattle.obj_kinds.specs.declared.node.Node.{Node}
use Rattle.schema_kinds.specs.declared.class.Class.{Class}
use Rattle.schema_kinds.specs.declared.key.Key.{Key}
use Rattle.schema_kinds.specs.declared.record.Record.{Record}
use Rattle.obj_kinds.specs.declared.sub.Sub.{Sub}
use Rattle.record_layout.specs.Rows.{Globals, rows, data_node, below}
use Rattle.std.specs.Prelude.{None}
use Rattle.schema_kinds.specs.Worlds.{World}
use Rattle.storage_map.specs.Worlds.{owner, image, IsKeyOf}
use Rattle.storage_map.specs.Changes.{NoneBelow, edited, stale, differing}

-- the changes turn the old nodes into the new ones
abbrev pub ChangesTurnOldIntoNew : Type 0
ChangesTurnOldIntoNew = (old new : Globals) (n : Node) → NoneBelow old new → edited (stale (listed old) (listed new)) (differing (listed old) (listed new)) old n ≡ get new n

-- the changes turn the rows of a record into those of another one of its class
abbrev pub ChangesTurnRows : Type 0
ChangesTurnRows =
    (classes : List Class) (key : Key) (old new : Record) (n : Node) → old.class ≡ new.class → let was = rows classes key old in let is = rows classes key new in
    edited (stale (listed was) (listed is)) (differing (listed was) (listed is)) was n ≡ get is n

-- a node that belongs to no key has no value in any world
abbrev pub NoOwnerNoValue : Type 0
NoOwnerNoValue = (classes : List Class) (w : World) (n : Node) → owner classes n ≡ None → image classes w n ≡ None

-- what stands at or below a key's row belongs to the key
abbrev pub RowsBelong : Type 0
RowsBelong = (classes : List Class) (key : Key) (way : List Sub) → IsKeyOf classes key → owner classes (below (data_node key) way) ≡ Some key

-- and to no other one
abbrev pub KeysAreApart : Type 0
KeysAreApart =
    (classes : List Class) (a b : Key) (way other : List Sub) → IsKeyOf classes a → IsKeyOf classes b → below (data_node a) way ≡ below (data_node b) other → a ≡ b
