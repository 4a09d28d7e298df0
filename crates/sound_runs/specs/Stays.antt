-- What is known at a commit stays so by the entries of all others, so that it may be found out piece by piece before.
use Rattle.std.specs.Prelude.{◌≡◌, ◌≢◌, ℕ, List}
use Rattle.std.specs.FinMap.{get}
use Rattle.obj_kinds.specs.declared.node.Node.{Node}
use Rattle.obj_kinds.specs.declared.op.Pid.{Pid}
use Rattle.obj_kinds.specs.declared.op.Op.{Op}
use Rattle.schema_kinds.specs.declared.class.Class.{Class}
use Rattle.schema_kinds.specs.declared.key.Key.{Key}
use Rattle.schema_kinds.specs.Worlds.{World, Change}
use Rattle.record_layout.specs.Rows.{data_node}
use Rattle.store_core.specs.Machine.{State}
use Rattle.store_core.specs.Guard.{HoldsToEnd}
use Rattle.store_calls.specs.Calls.{Tag, Inside}
use Rattle.object_calls.specs.Keys.{ManySide}
use Rattle.object_runs.specs.ObjectMachine.{Desks, view}
use Rattle.object_runs.specs.Causes.{IsMember}
use Rattle.object_runs.specs.Invariant.{HoldsRow, HoldsShared, IsInvariant}
use Rattle.sound_runs.specs.Closing.{IsVacant, IsUnnamed, IsSafeChange}
use Rattle.sound_runs.specs.Backed.{IsBacked, IsWithinLevel, IsOrderly}
use Rattle.sound_runs.specs.Laws.{later, desks_later}
use Rattle.sound_runs.specs.Reads.{HoldsSome}

-- an orderly entry of another process
pub record IsOthers (classes : List Class) (s : State) (o : Desks) (p a : Pid) (op : Op) (tag : Tag) : Type 0 where
  pub another : a.0 ≢ p.0
  pub invariant : IsInvariant classes s o
  pub backed : IsBacked classes s o
  pub orderly : IsOrderly classes s o a op tag

-- holds to the end stay
abbrev pub HoldsStay : Type 0
HoldsStay =
    (classes : List Class) (s : State) (o : Desks) (p a : Pid) (op : Op) (tag : Tag) (n : Node) → IsOthers classes s o p a op tag
    → (HoldsToEnd s.holds p n → HoldsToEnd (later s a op).holds p n) × (HoldsShared s.holds p n → HoldsShared (later s a op).holds p n)

-- under a row that the process holds, shared at least, its view stays
abbrev pub HeldViewsStay : Type 0
HeldViewsStay =
    (classes : List Class) (s : State) (o : Desks) (p a : Pid) (op : Op) (tag : Tag) (key : Key) → IsOthers classes s o p a op tag → HoldsSome s.holds p (data_node key)
    → get (view (desks_later s o a op tag) p.0) key ≡ get (view o p.0) key

-- a key node that it holds stays vacant
abbrev pub VacantStays : Type 0
VacantStays =
    (classes : List Class) (s : State) (o : Desks) (p a : Pid) (op : Op) (tag : Tag) (front : Change) (key : Key) (back : Change) (n : Node) → IsOthers classes s o p a op tag → HoldsToEnd s.holds p n
    → IsVacant classes (view o p.0) front key back n → IsVacant classes (view (desks_later s o a op tag) p.0) front key back n

-- a key whose row it holds exclusively stays unnamed
abbrev pub UnnamedStays : Type 0
UnnamedStays =
    (classes : List Class) (s : State) (o : Desks) (p a : Pid) (op : Op) (tag : Tag) (key : Key) (m : ManySide) → IsOthers classes s o p a op tag → HoldsRow s.holds p key
    → IsUnnamed classes (view o p.0) key m → IsUnnamed classes (view (desks_later s o a op tag) p.0) key m

-- and so a change that is safe stays so
abbrev pub SafeStays : Type 0
SafeStays =
    (classes : List Class) (s : State) (o : Desks) (p a : Pid) (op : Op) (tag : Tag) (change : Change) → IsOthers classes s o p a op tag
    → IsSafeChange classes s o p change → IsSafeChange classes (later s a op) (desks_later s o a op tag) p change

-- a many side without members leaves the key unnamed
abbrev pub NoMembersUnnamed : Type 0
NoMembersUnnamed = (classes : List Class) (v : World) (key : Key) (m : ManySide) → ((id : List ℕ) → IsMember classes v m key id → ⊥) → IsUnnamed classes v key m

-- ---- the process's own entries within its save or delete

abbrev pub OwnKeepsView : Type 0
OwnKeepsView =
    (classes : List Class) (s : State) (o : Desks) (p : Pid) (op : Op) (tag : Tag) → IsInvariant classes s o → IsOrderly classes s o p op tag → tag ≡ Inside → IsWithinLevel op
    → view (desks_later s o p op tag) p.0 ≡ view o p.0

abbrev pub OwnHoldsStay : Type 0
OwnHoldsStay =
    (classes : List Class) (s : State) (o : Desks) (p : Pid) (op : Op) (tag : Tag) (n : Node) → IsInvariant classes s o → IsOrderly classes s o p op tag → tag ≡ Inside → IsWithinLevel op
    → (HoldsToEnd s.holds p n → HoldsToEnd (later s p op).holds p n) × (HoldsShared s.holds p n → HoldsShared (later s p op).holds p n)

abbrev pub OwnSafeStays : Type 0
OwnSafeStays =
    (classes : List Class) (s : State) (o : Desks) (p : Pid) (op : Op) (tag : Tag) (change : Change) → IsInvariant classes s o → IsOrderly classes s o p op tag → tag ≡ Inside → IsWithinLevel op
    → IsSafeChange classes s o p change → IsSafeChange classes (later s p op) (desks_later s o p op tag) p change
