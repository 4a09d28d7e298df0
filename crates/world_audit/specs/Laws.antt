-- Laws of the audit: nodes without a fault are those of exactly one start, and those of a start have none.
use Rattle.std.specs.Prelude.{◌≡◌, ◌↔◌, Bool, ◌&&◌, List, Some, IsTrue}
use Rattle.std.specs.List.{list_all}
use Rattle.std.specs.FinMap.{is_sorted, from_sorted}
use Rattle.obj_kinds.specs.declared.name.ClassName.{ClassName}
use Rattle.obj_kinds.specs.declared.node.Node.{Node}
use Rattle.obj_kinds.specs.declared.value.Value.{Value}
use Rattle.obj_kinds.specs.Limits.{is_legal_node, is_legal_value}
use Rattle.obj_kinds.specs.Order.{node_cmp}
use Rattle.schema_kinds.specs.declared.class.Class.{Class}
use Rattle.schema_kinds.specs.Classes.{extent_of}
use Rattle.schema_kinds.specs.Worlds.{World}
use Rattle.record_layout.specs.Schemas.{IsStorable}
use Rattle.world_audit.specs.Objects.{Told, IsWorldOf}
use Rattle.world_audit.specs.Faults.{IsFaultless}
use Rattle.world_audit.specs.Openings.{Opening}

-- a node and its value are within their limits
abbrev pub is_within : Node × Value → Bool
is_within e = is_legal_node e.0 && is_legal_value e.1

-- nodes in rising order within their limits
pub record AreNodes (nodes : Told) : Type 0 where
  pub rising : IsTrue (is_sorted node_cmp nodes)
  pub within : IsTrue (list_all is_within nodes)

-- each class of an extent is storable, as it is in a linked schema
abbrev pub AreStorable : List Class → Type 0
AreStorable classes = (name extent : ClassName) → extent_of classes name ≡ Some extent → IsStorable classes name

-- a run may start with the nodes and a world exactly where no node is a fault, and the world is the one that the nodes give
abbrev pub FaultlessIsOpening : Type 0
FaultlessIsOpening =
    (classes : List Class) (nodes : Told) (w : World) → AreStorable classes → AreNodes nodes
    → (IsFaultless classes nodes × IsWorldOf classes nodes w) ↔ Opening classes (from_sorted nodes) w

-- and there is no other such world
abbrev pub OneWorld : Type 0
OneWorld = (classes : List Class) (nodes : Told) (v w : World) → AreStorable classes → AreNodes nodes → Opening classes (from_sorted nodes) v → Opening classes (from_sorted nodes) w → v ≡ w
