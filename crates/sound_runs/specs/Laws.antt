-- What safe saves and deletes, and orderly entries, keep.
use Rattle.std.specs.Prelude.{◌≡◌, ℕ, Bool, true, false, List, [], ◌∷◌, Some, None}
use Rattle.std.specs.FinMap.{get}
use Rattle.obj_kinds.specs.declared.name.ClassName.{ClassName}
use Rattle.obj_kinds.specs.declared.node.Node.{Node}
use Rattle.obj_kinds.specs.declared.op.Pid.{Pid}
use Rattle.obj_kinds.specs.declared.op.Op.{Op}
use Rattle.schema_kinds.specs.declared.class.Class.{Class}
use Rattle.schema_kinds.specs.declared.key.Key.{Key}
use Rattle.schema_kinds.specs.declared.record.Record.{Record}
use Rattle.schema_kinds.specs.declared.record.Part.TheVariants.{Put, Del}
use Rattle.schema_kinds.specs.Worlds.{World, Change, apply}
use Rattle.storage_map.specs.SoundWorlds.{IsSound, HasSide}
use Rattle.storage_map.specs.Keys.{Side, sides_of, target_key}
use Rattle.global_tree.specs.Contents.{Globals}
use Rattle.store_core.specs.Machine.{State, after, reply, opening}
use Rattle.store_calls.specs.Calls.{Tag, Closes}
use Rattle.object_runs.specs.ObjectMachine.{Desks, view, desks_after, first_desks}
use Rattle.object_runs.specs.Causes.{Has}
use Rattle.object_runs.specs.Invariant.{IsInvariant}
use Rattle.sound_runs.specs.Closing.{has_node_if, AreDistinct, IsDrawn, AreSafe, IsSafeDelete}
use Rattle.sound_runs.specs.Backed.{IsBacked, Knows, HasSoundViews, IsOrderly}
use Rattle.sound_runs.specs.Pairs.{ArePaired}

-- ---- worlds alone

-- a safe save of a sound view leaves it sound; two objects may swap their keys
abbrev pub SavesKeepSound : Type 0
SavesKeepSound =
    (classes : List Class) (s : State) (o : Desks) (p : Pid) (change : Change) → AreDistinct change → AreSafe classes s o p change [] change → IsSound classes (view o p.0)
    → ((key : Key) → IsDrawn o p.0 key → get (view o p.0) key ≡ None) → IsSound classes (apply change (view o p.0))

-- so does a safe delete, where one sides have their other sides
abbrev pub DeletesKeepSound : Type 0
DeletesKeepSound =
    (classes : List Class) (s : State) (o : Desks) (p : Pid) (key : Key) → ArePaired classes → IsSafeDelete classes s o p key → IsSound classes (view o p.0)
    → IsSound classes (apply (Del key ∷ []) (view o p.0))

-- where a changed object's one side names a key that the other process changes, the object had this side before
abbrev pub NamesOlder : List Class → World → World → (Key → Bool) → (Key → Bool) → Type 0
NamesOlder classes w changed mine theirs =
    (key : Key) (r : Record) (side : Side) (id : List ℕ) → mine key ≡ true → get changed key ≡ Some r → HasSide side (sides_of classes r) → side.target ≡ Some id
    → theirs (target_key classes side.class id) ≡ true → (old : Record) × (get w key ≡ Some old) × HasSide side (sides_of classes old)

-- What keeps the changes of two processes apart: `one` is the world with the keys of `mine` changed, `other` with those of `theirs`, and
-- `both` with both. No key is changed twice, no key node is new twice, and no one side newly names a key that the other changes.
pub record AreApart (classes : List Class) (w one other both : World) (mine theirs : Key → Bool) : Type 0 where
  pub in_one : (key : Key) → mine key ≡ false → get one key ≡ get w key
  pub in_other : (key : Key) → theirs key ≡ false → get other key ≡ get w key
  pub as_one : (key : Key) → theirs key ≡ false → get both key ≡ get one key
  pub as_other : (key : Key) → mine key ≡ false → get both key ≡ get other key
  pub keys : (key : Key) → mine key ≡ true → theirs key ≡ true → ⊥
  pub nodes : (a b : Key) (n : Node) → mine a ≡ true → has_node_if classes a (get one a) n ≡ true → has_node_if classes a (get w a) n ≡ false
      → theirs b ≡ true → has_node_if classes b (get other b) n ≡ true → has_node_if classes b (get w b) n ≡ false → ⊥
  pub mine_older : NamesOlder classes w one mine theirs
  pub theirs_older : NamesOlder classes w other theirs mine

abbrev pub ApartStaysSound : Type 0
ApartStaysSound =
    (classes : List Class) (w one other both : World) (mine theirs : Key → Bool) → AreApart classes w one other both mine theirs → IsSound classes one → IsSound classes other → IsSound classes both

-- ---- entries

abbrev pub later : State → Pid → Op → State
later s p op = after s p op

abbrev pub desks_later : State → Desks → Pid → Op → Tag → Desks
desks_later s o p op tag = desks_after o p.0 op (reply s p op) tag

-- each orderly entry of whatever process keeps all worlds that are or may come sound, the counters high enough and the classes in agreement
abbrev pub EntriesKeepSound : Type 0
EntriesKeepSound =
    (classes : List Class) (s : State) (o : Desks) (p : Pid) (op : Op) (tag : Tag) → ArePaired classes → IsInvariant classes s o → IsBacked classes s o → IsOrderly classes s o p op tag
    → HasSoundViews classes (later s p op) (desks_later s o p op tag)

abbrev pub EntriesKeepBacked : Type 0
EntriesKeepBacked =
    (classes : List Class) (s : State) (o : Desks) (p : Pid) (op : Op) (tag : Tag) → IsInvariant classes s o → IsBacked classes s o → IsOrderly classes s o p op tag
    → IsBacked classes (later s p op) (desks_later s o p op tag)

abbrev pub StartIsBacked : Type 0
StartIsBacked = (classes : List Class) (pids : ℕ) (g : Globals) (w : World) → IsBacked classes (opening pids g) (first_desks w)

-- ---- what a process knows

-- it stays so by each orderly entry of whatever process, if a commit of its own puts the key with this class alone
abbrev pub KnowledgeStays : Type 0
KnowledgeStays =
    (classes : List Class) (s : State) (o : Desks) (p : Pid) (op : Op) (tag : Tag) (q : ℕ) (key : Key) (class : ClassName) → IsInvariant classes s o → IsBacked classes s o → IsOrderly classes s o p op tag
    → Knows classes s o q key class → (q ≡ p.0 → (change : Change) (r : Record) → tag ≡ Closes change → Has (Put key r) change → r.class ≡ class)
    → Knows classes (later s p op) (desks_later s o p op tag) q key class

-- an object of the view is known, and so is a key that was just drawn, for any class
abbrev pub ViewsAreKnown : Type 0
ViewsAreKnown =
    (classes : List Class) (s : State) (o : Desks) (p : ℕ) (key : Key) (r : Record) → IsInvariant classes s o → IsBacked classes s o → get (view o p) key ≡ Some r → Knows classes s o p key r.class

abbrev pub DrawsAreKnown : Type 0
DrawsAreKnown =
    (classes : List Class) (s : State) (o : Desks) (p : ℕ) (key : Key) (class : ClassName) → IsInvariant classes s o → IsBacked classes s o → IsDrawn o p key → Knows classes s o p key class
