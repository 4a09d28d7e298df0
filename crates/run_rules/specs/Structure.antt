-- The parts of the invariant that speak of holds, levels and lists; and the lists before a save or delete.
use Rattle.std.specs.Prelude.{◌≡◌, true, List, [], ◌∷◌, Option, Some, None}
use Rattle.std.specs.FinMap.{get}
use Rattle.obj_kinds.specs.declared.node.Node.{Node}
use Rattle.obj_kinds.specs.declared.value.Value.{Value}
use Rattle.obj_kinds.specs.declared.op.Pid.{Pid}
use Rattle.schema_kinds.specs.declared.class.Class.{Class}
use Rattle.schema_kinds.specs.declared.key.Key.{Key}
use Rattle.storage_map.specs.Worlds.{owner}
use Rattle.store_core.specs.Machine.{State, levels_at}
use Rattle.store_core.specs.Guard.{IsGuarded}
use Rattle.object_runs.specs.ObjectMachine.{Desks, Within, desk_at}
use Rattle.object_runs.specs.Headline.{is_object_node}
use Rattle.object_runs.specs.Invariant.{row_guard, key_guard, HoldsRow, some_changes, written, Stands, IsAlone, IsAligned}

pub record IsStructured (classes : List Class) (s : State) (o : Desks) : Type 0 where
  pub rows : IsGuarded (row_guard classes) s
  pub keys : IsGuarded (key_guard classes) s
  pub aligned : (p : Pid) → IsAligned (desk_at o p.0).within (levels_at s p.0) (desk_at o p.0).lists
  pub pending : (p : Pid) (key : Key) → some_changes (desk_at o p.0).lists key ≡ true → HoldsRow s.holds p key
  pub foreign : (p : Pid) (n : Node) (key : Key) (w : Within) → owner classes n ≡ Some key → (desk_at o p.0).within ≡ Some w
      → (HoldsRow s.holds p key → ⊥) → (x : Option Value) → written w.asked n x ≡ x
  pub stands : (p : Pid) (n : Node) (key : Key) → owner classes n ≡ Some key → IsAlone s o p.0 n key
      → Stands classes n key (desk_at o p.0).within (levels_at s p.0) (desk_at o p.0).lists (get s.globals n) o.world
  pub strays : (n : Node) → is_object_node classes n ≡ true → owner classes n ≡ None → get s.globals n ≡ None
  -- within a save or delete the lists are those before its Begin, under an empty one
  pub before : (p : Pid) (w : Within) → (desk_at o p.0).within ≡ Some w → (desk_at o p.0).lists ≡ [] ∷ w.before
