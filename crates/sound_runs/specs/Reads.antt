-- What a process reads: where it holds the row of a key, or a node that guards an entry, it sees its own view, under its own writes.
use Rattle.std.specs.Prelude.{◌≡◌, ◌≢◌, ℕ, pos, true, false, List, [], ◌∷◌, Option, Some, None, is_some}
use Rattle.std.specs.FinMap.{get, contains_key}
use Rattle.obj_kinds.specs.declared.name.ClassName.{ClassName}
use Rattle.obj_kinds.specs.declared.node.Node.{Node}
use Rattle.obj_kinds.specs.declared.value.Value.{Value}
use Rattle.obj_kinds.specs.declared.op.Pid.{Pid}
use Rattle.obj_kinds.specs.declared.op.Owner.{Owner}
use Rattle.obj_kinds.specs.declared.op.Mode.{Mode}
use Rattle.obj_kinds.specs.declared.op.Op.TheVariants.{Incr}
use Rattle.obj_kinds.specs.declared.op.Reply.TheVariants.{Number}
use Rattle.schema_kinds.specs.declared.class.Class.{Class}
use Rattle.schema_kinds.specs.declared.key.Key.{Key}
use Rattle.record_layout.specs.Rows.{data_node}
use Rattle.storage_map.specs.Worlds.{owner, IsKeyOf}
use Rattle.lock_table.specs.Holds.{Holds, hold}
use Rattle.store_core.specs.Machine.{State, levels_at, reply}
use Rattle.store_core.specs.Guard.{names}
use Rattle.object_calls.specs.Extents.{counter_node}
use Rattle.object_runs.specs.ObjectMachine.{Desks, Within, desk_at, view}
use Rattle.object_runs.specs.Invariant.{HoldsRow, written, shown, IsInvariant}
use Rattle.sound_runs.specs.Closing.{IsDrawn}
use Rattle.sound_runs.specs.Backed.{IsBacked, Knows}

-- the process holds the node in some mode, counted or to the end
abbrev pub HoldsSome : Holds → Pid → Node → Type 0
HoldsSome hs p n = (m : Mode) × (o : Owner) × (contains_key hs (hold p n m o) ≡ true)

-- a value of the view, under what the save in progress wrote
abbrev pub under_writes : Option Within → Node → Option Value → Option Value
under_writes None n x = x
under_writes (Some w) n x = written w.asked n x

-- the node of a key is as the process's view has it, under its own writes
abbrev pub IsAsViewed : List Class → State → Desks → Pid → Node → Key → Type 0
IsAsViewed classes s o p n key = get s.globals n ≡ under_writes (desk_at o p.0).within n (shown classes key n (get (view o p.0) key))

-- who holds the row of a key, shared at least, reads all its nodes so
abbrev pub RowsAreAsViewed : Type 0
RowsAreAsViewed =
    (classes : List Class) (s : State) (o : Desks) (p : Pid) (n : Node) (key : Key) → IsInvariant classes s o → owner classes n ≡ Some key → HoldsSome s.holds p (data_node key) → IsAsViewed classes s o p n key

-- and so is each node that no other process has in a level, whoever holds the row, as are the entries below a held key node or a held
-- node of members
abbrev pub GuardedAreAsViewed : Type 0
GuardedAreAsViewed =
    (classes : List Class) (s : State) (o : Desks) (p : Pid) (n : Node) (key : Key) → IsInvariant classes s o → owner classes n ≡ Some key
    → ((q : ℕ) → q ≢ p.0 → names (levels_at s q) n ≡ false) → IsAsViewed classes s o p n key

-- a drawn number is no id that the process knows, and no other one that its save drew
abbrev pub DrawsAreFresh : Type 0
DrawsAreFresh =
    (classes : List Class) (s : State) (o : Desks) (p : Pid) (key : Key) (class : ClassName) (i : ℕ) → IsInvariant classes s o → IsBacked classes s o → Knows classes s o p.0 key class
    → reply s p (Incr (counter_node key.extent) (pos 1)) ≡ Number (pos i) → key.id ≢ i ∷ []

-- nothing stands under a drawn key whose row is held, before the save writes there
abbrev pub DrawnAreBare : Type 0
DrawnAreBare =
    (classes : List Class) (s : State) (o : Desks) (p : Pid) (n : Node) (key : Key) → IsInvariant classes s o → IsBacked classes s o → IsDrawn o p.0 key → owner classes n ≡ Some key → HoldsRow s.holds p key
    → under_writes (desk_at o p.0).within n None ≡ None → get s.globals n ≡ None

-- A row tells whether its object is in the view, where the process holds it and its save has written nothing there: so an absent row is a
-- lacking target, or an object that is gone.
abbrev pub RowsTellObjects : Type 0
RowsTellObjects =
    (classes : List Class) (s : State) (o : Desks) (p : Pid) (key : Key) → IsInvariant classes s o → IsKeyOf classes key → HoldsSome s.holds p (data_node key)
    → ((x : Option Value) → under_writes (desk_at o p.0).within (data_node key) x ≡ x) → is_some (get s.globals (data_node key)) ≡ is_some (get (view o p.0) key)
