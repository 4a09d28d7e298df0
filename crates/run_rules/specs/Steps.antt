-- What an entry of a process may be, so that the store and the object machine stay in step; and the states that entries make.
use Rattle.std.specs.Prelude.{◌≡◌, ◌≢◌, ◌⊎◌, ℕ, pos, true, false, List, [], ◌∷◌, Option, Some, None}
use Rattle.std.specs.FinMap.{get}
use Rattle.obj_kinds.specs.declared.name.ClassName.{ClassName}
use Rattle.obj_kinds.specs.declared.node.Node.{Node}
use Rattle.obj_kinds.specs.declared.op.Pid.{Pid}
use Rattle.obj_kinds.specs.declared.op.Op.{Op}
use Rattle.obj_kinds.specs.declared.op.Op.TheVariants.{Set, Kill, Incr, Begin, Commit, RollbackOne, RollbackAll, End}
use Rattle.obj_kinds.specs.Order.{covers}
use Rattle.schema_kinds.specs.declared.class.Class.{Class}
use Rattle.schema_kinds.specs.declared.key.Key.{Key}
use Rattle.schema_kinds.specs.Classes.{is_own_global}
use Rattle.schema_kinds.specs.Worlds.{World, Change, apply}
use Rattle.storage_map.specs.Worlds.{owner}
use Rattle.lock_table.specs.Holds.{Holds}
use Rattle.store_core.specs.Machine.{State, is_live, after, reply}
use Rattle.store_core.specs.Guard.{HoldsGuard}
use Rattle.store_calls.specs.Calls.{Tag, Plain, Opens, Inside, Closes, Fails}
use Rattle.object_calls.specs.Extents.{counter_node}
use Rattle.object_runs.specs.ObjectMachine.{Desks, Within, desk_at, desks_after, view}
use Rattle.object_runs.specs.Runs.{Both}
use Rattle.object_runs.specs.Headline.{is_extent_of}
use Rattle.object_runs.specs.Invariant.{row_guard, key_guard, HoldsRow, changes, written, shown}

-- it writes no global of the schema
abbrev pub WritesNone : List Class → Op → Type 0
WritesNone classes (Set n v) = is_own_global classes n.global ≡ false
WritesNone classes (Kill n) = is_own_global classes n.global ≡ false
WritesNone classes (Incr n k) = is_own_global classes n.global ≡ false
WritesNone classes _ = Unit {0}

-- it begins and ends no level
abbrev pub IsWithinLevel : Op → Type 0
IsWithinLevel Begin = ⊥
IsWithinLevel Commit = ⊥
IsWithinLevel RollbackOne = ⊥
IsWithinLevel RollbackAll = ⊥
IsWithinLevel End = ⊥
IsWithinLevel _ = Unit {0}

abbrev pub HasOwner : List Class → Node → Type 0
HasOwner classes n = (key : Key) × (owner classes n ≡ Some key)

abbrev pub IsCounterOf : List Class → Node → Type 0
IsCounterOf classes n = (extent : ClassName) × (is_extent_of classes extent ≡ true) × (n ≡ counter_node extent)

-- it writes nodes of keys of which the process holds the guards, or counts a counter up by one
abbrev pub OwnsWritten : List Class → Holds → Pid → Op → Type 0
OwnsWritten classes hs p (Set n v) = HasOwner classes n × HoldsGuard hs p (row_guard classes n) × HoldsGuard hs p (key_guard classes n)
OwnsWritten classes hs p (Kill n) =
    HasOwner classes n × ((m : Node) (key : Key) → owner classes m ≡ Some key → covers n m ≡ true → HoldsRow hs p key × HoldsGuard hs p (key_guard classes m))
OwnsWritten classes hs p (Incr n k) = IsCounterOf classes n × (k ≡ pos 1)
OwnsWritten classes hs p _ = Unit {0}

-- what a save or delete asked makes of the view what its change makes of it, and the rows of its keys are held
pub record IsWritten (classes : List Class) (hs : Holds) (p : Pid) (v : World) (asked : List Op) (change : Change) : Type 0 where
  pub held : (key : Key) → changes change key ≡ true → HoldsRow hs p key
  pub whole : (n : Node) (key : Key) → owner classes n ≡ Some key → written asked n (shown classes key n (get v key)) ≡ shown classes key n (get (apply change v) key)

abbrev pub IsWithin : Desks → Pid → Type 0
IsWithin o p = (w : Within) × ((desk_at o p.0).within ≡ Some w)

-- what may come, where these facts are to hold at the Commit of a change
module _ (classes : List Class) (Facts : State → Desks → Pid → Change → Type 0) where
  abbrev pub MayCome : State → Desks → Pid → Op → Tag → Type 0
  MayCome s o p op Plain = ((desk_at o p.0).within ≡ None) × WritesNone classes op × (op ≢ End)
  MayCome s o p op Opens = ((desk_at o p.0).within ≡ None) × (op ≡ Begin)
  MayCome s o p op Inside = IsWithin o p × IsWithinLevel op × OwnsWritten classes s.holds p op
  MayCome s o p op (Closes change) =
      ((w : Within) × ((desk_at o p.0).within ≡ Some w) × IsWritten classes s.holds p (view o p.0) w.asked change) × (op ≡ Commit) × Facts s o p change
  MayCome s o p op Fails = IsWithin o p × (op ≡ RollbackOne)

  -- a live process may always end
  abbrev pub IsFit : Both → Pid → Op → Tag → Type 0
  IsFit b p op tag = (is_live b.store p ≡ true) × ((op ≡ End) ⊎ MayCome b.store b.objects p op tag)

-- ---- states

-- a save or delete that begins where these are the lists
abbrev pub just_begun : List Change → Within
just_begun cs = record { before = cs; asked = [] }

-- a save or delete that asked one operation more
abbrev pub and_asked : Op → Within → Within
and_asked op w = record { before = w.before; asked = op ∷ w.asked }

abbrev pub next : Both → Pid → Op → Tag → Both
next b p op tag = record { store = after b.store p op; objects = desks_after b.objects p.0 op (reply b.store p op) tag }

pub record Event : Type 0 where
  pub pid : Pid
  pub op : Op
  pub tag : Tag

abbrev pub step_by : Both → Event → Both
step_by b e = next b e.pid e.op e.tag

abbrev pub after_all : Both → List Event → Both
after_all b [] = b
after_all b (e ∷ es) = after_all (step_by b e) es

module _ (classes : List Class) (Facts : State → Desks → Pid → Change → Type 0) where
  -- each of them fits
  abbrev pub AreFit : Both → List Event → Type 0
  AreFit b [] = Unit {0}
  AreFit b (e ∷ es) = IsFit classes Facts b e.pid e.op e.tag × AreFit (step_by b e) es
