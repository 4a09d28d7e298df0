-- Below key nodes stand ids alone.
use Rattle.std.specs.Prelude.{◌≡◌, ℕ, true, List, length, Some, None}
use Rattle.std.specs.FinMap.{get, contains_key}
use Rattle.obj_kinds.specs.declared.node.Node.{Node}
use Rattle.obj_kinds.specs.declared.sub.Sub.{Sub}
use Rattle.global_tree.specs.Contents.{Globals}
use Rattle.global_tree.specs.Below.{child, next_below}
use Rattle.schema_kinds.specs.declared.class.Class.{Class}
use Rattle.schema_kinds.specs.declared.key.Key.{Key}
use Rattle.storage_map.specs.Entries.{key_node}
use Rattle.storage_map.specs.Worlds.{extent_has, IsKeyOf}
use Rattle.world_images.specs.Images.{IsEvenExtent}
use Rattle.store_core.specs.Machine.{State}
use Rattle.object_calls.specs.Extents.{id_below}
use Rattle.object_runs.specs.ObjectMachine.{Desks}
use Rattle.object_runs.specs.Invariant.{IsInvariant}

-- What `Order` finds below a node of an index or a one side, with all its values, is an id of the extent, and the entry has a value; so such a
-- node is never damaged.
abbrev pub NextIsAnId : Type 0
NextIsAnId =
    (classes : List Class) (s : State) (o : Desks) (key : Key) (name : List ℕ) (values : List Sub) (t : Sub) → IsInvariant classes s o → IsKeyOf classes key → IsEvenExtent classes key.extent
    → extent_has classes key.extent name (length values) ≡ true → next_below s.globals (key_node key name values) None ≡ Some t
    → (id : List ℕ) × (id_below classes key.extent t ≡ Some id) × (contains_key s.globals (child (key_node key name values) t) ≡ true)

-- where it finds nothing, no entry stands below the node
abbrev pub NoNextIsBare : Type 0
NoNextIsBare = (g : Globals) (n : Node) (t : Sub) → next_below g n None ≡ None → get g (child n t) ≡ None
