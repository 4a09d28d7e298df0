-- What is kept beside the listed invariant: where counters stand, which keys saves in progress drew, and which key nodes are held.
use Rattle.std.specs.Prelude.{◌≡◌, ◌≢◌, ◌⊎◌, ℕ, ◌≤◌, pos, true, false, List, length, Option, Some, None}
use Rattle.std.specs.FinMap.{get}
use Rattle.obj_kinds.specs.declared.name.ClassName.{ClassName}
use Rattle.obj_kinds.specs.declared.node.Node.{Node}
use Rattle.obj_kinds.specs.declared.op.Pid.{Pid}
use Rattle.obj_kinds.specs.declared.op.Op.{Op}
use Rattle.obj_kinds.specs.declared.op.Op.TheVariants.{Set, Kill, Incr, Begin, Commit, RollbackOne, RollbackAll, End}
use Rattle.obj_kinds.specs.Order.{covers}
use Rattle.schema_kinds.specs.declared.class.Class.{Class}
use Rattle.schema_kinds.specs.declared.key.Key.{Key}
use Rattle.schema_kinds.specs.declared.record.Record.{Record}
use Rattle.schema_kinds.specs.declared.record.Part.TheVariants.{Put, Del}
use Rattle.schema_kinds.specs.Worlds.{World, Change}
use Rattle.record_layout.specs.Rows.{data_node}
use Rattle.storage_map.specs.SoundWorlds.{IsSound, HasSide, has_key_node}
use Rattle.global_tree.specs.Contents.{Globals}
use Rattle.store_core.specs.Machine.{State, levels_at, is_live, after, reply}
use Rattle.store_core.specs.Guard.{HoldsToEnd, names}
use Rattle.store_calls.specs.Calls.{Tag, Plain, Opens, Inside, Closes, Fails}
use Rattle.object_calls.specs.Extents.{counter_node}
use Rattle.object_calls.specs.Keys.{Side, sides_of, ManySide, many_sides, members_node, target_key}
use Rattle.object_runs.specs.ObjectMachine.{Within, Desks, desk_at, desks_after}
use Rattle.object_runs.specs.Causes.{Has}
use Rattle.object_runs.specs.Headline.{Counts, is_extent_of, IsCounted, first_number}
use Rattle.object_runs.specs.Invariant.{HoldsShared, some_changes, IsPending, IsPossible, IsKnown}
use Rattle.sound_runs.specs.Closing.{IsDrawn, IsSafeChange}

-- ---- counters

-- the counter of the extent stands at this number or above
pub record IsAtLeast (g : Globals) (extent : ClassName) (least : ℕ) : Type 0 where
  pub number : ℕ
  pub counts : Counts (get g (counter_node extent)) number
  pub enough : least ≤ number

-- ---- drawn keys

-- a key that a save in progress drew: its counter isn't below it, no possible world has it, and no other process drew it
pub record IsUnborn (classes : List Class) (s : State) (o : Desks) (p : ℕ) (key : Key) : Type 0 where
  pub extent : is_extent_of classes key.extent ≡ true
  pub counted : IsAtLeast s.globals key.extent (first_number key.id)
  pub nowhere : (w : World) → IsPossible o w → get w key ≡ None
  pub alone : (q : ℕ) → IsDrawn o q key → q ≡ p

-- ---- the parts

pub record IsBacked (classes : List Class) (s : State) (o : Desks) : Type 0 where
  -- no level has a counter, so none is undone
  pub unnamed : (p : Pid) (extent : ClassName) → is_extent_of classes extent ≡ true → names (levels_at s p.0) (counter_node extent) ≡ false
  pub drawn : (p : ℕ) (key : Key) → IsDrawn o p key → IsUnborn classes s o p key
  -- a node of a unique key that a pending object has is held, or the object had it before
  pub nodes : (p : Pid) (key : Key) (r : Record) (n : Node) → IsPending (desk_at o p.0).lists (Put key r) → has_key_node classes key r n ≡ true
      → HoldsToEnd s.holds p n ⊎ ((old : Record) × (get o.world key ≡ Some old) × (has_key_node classes key old n ≡ true))

-- What a process knows of an object in its memory and keeps whatever the others do: what is known of its class and counter, and that no
-- other process draws its key.
pub record Knows (classes : List Class) (s : State) (o : Desks) (p : ℕ) (key : Key) (class : ClassName) : Type 0 where
  pub extent : is_extent_of classes key.extent ≡ true
  pub known : IsKnown s o key class
  pub undrawn : (q : ℕ) → q ≢ p → IsDrawn o q key → ⊥

-- ---- the parts of the invariant that speak of worlds

pub record HasSoundViews (classes : List Class) (s : State) (o : Desks) : Type 0 where
  pub targets : (p : Pid) (key : Key) (r : Record) (side : Side) (id : List ℕ) → IsPending (desk_at o p.0).lists (Put key r) → HasSide side (sides_of classes r)
      → side.target ≡ Some id → HoldsShared s.holds p (data_node (target_key classes side.class id))
      ⊎ (some_changes (desk_at o p.0).lists (target_key classes side.class id) ≡ true)
      ⊎ ((old : Record) × (get o.world key ≡ Some old) × HasSide side (sides_of classes old))
  pub deletes : (p : Pid) (key : Key) (r : Record) (m : ManySide) → IsPending (desk_at o p.0).lists (Del key) → get o.world key ≡ Some r
      → Has m (many_sides classes r.class) → HoldsToEnd s.holds p (members_node classes m key.id)
  pub sound : (w : World) → IsPossible o w → IsSound classes w
  pub counted : (w : World) (extent : ClassName) → is_extent_of classes extent ≡ true → IsPossible o w → IsCounted s.globals w extent
  pub classes_agree : (v w : World) (key : Key) (q r : Record) → IsPossible o v → IsPossible o w → get v key ≡ Some q → get w key ≡ Some r → q.class ≡ r.class

-- ---- entries that may come

-- begins and ends no level
abbrev pub IsWithinLevel : Op → Type 0
IsWithinLevel Begin = ⊥
IsWithinLevel Commit = ⊥
IsWithinLevel RollbackOne = ⊥
IsWithinLevel RollbackAll = ⊥
IsWithinLevel End = ⊥
IsWithinLevel _ = Unit {0}

-- the operation has its place in a save or delete, or in none; a process may end anywhere
abbrev pub IsInPlace : Option Within → Op → Tag → Type 0
IsInPlace w End tag = Unit {0}
IsInPlace w op Plain = w ≡ None
IsInPlace w op Opens = (w ≡ None) × (op ≡ Begin)
IsInPlace w op Inside = ((b : Within) × (w ≡ Some b)) × IsWithinLevel op
IsInPlace w op (Closes change) = ((b : Within) × (w ≡ Some b)) × (op ≡ Commit)
IsInPlace w op Fails = ((b : Within) × (w ≡ Some b)) × (op ≡ RollbackOne)

-- a counter of the schema is neither set nor killed, and only incremented by one
abbrev pub SparesCounters : List Class → Op → Type 0
SparesCounters classes (Set n v) = (extent : ClassName) → is_extent_of classes extent ≡ true → n ≢ counter_node extent
SparesCounters classes (Kill n) = (extent : ClassName) → is_extent_of classes extent ≡ true → covers n (counter_node extent) ≡ false
SparesCounters classes (Incr n k) = (extent : ClassName) → is_extent_of classes extent ≡ true → n ≡ counter_node extent → k ≡ pos 1
SparesCounters classes _ = Unit {0}

-- within a save only counters of extents are incremented
abbrev pub DrawsOfExtents : List Class → Op → Tag → Type 0
DrawsOfExtents classes (Incr n k) Inside = (extent : ClassName) → n ≡ counter_node extent → is_extent_of classes extent ≡ true
DrawsOfExtents classes op tag = Unit {0}

-- an entry of a live process that keeps its order
pub record IsOrderly (classes : List Class) (s : State) (o : Desks) (p : Pid) (op : Op) (tag : Tag) : Type 0 where
  pub live : is_live s p ≡ true
  pub in_place : IsInPlace (desk_at o p.0).within op tag
  pub spares : SparesCounters classes op
  pub draws : DrawsOfExtents classes op tag
  pub safe : (change : Change) → tag ≡ Closes change → op ≡ Commit → IsSafeChange classes s o p change
  -- as many levels as lists then, as the levels' own part of the invariant says of what comes next
  pub aligned : length (levels_at (after s p op) p.0) ≡ length (desk_at (desks_after o p.0 op (reply s p op) tag) p.0).lists
