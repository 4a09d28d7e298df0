-- What is known when a save or a delete commits: what locks, reads below held nodes and the process's own entries tell.
use Rattle.std.specs.Prelude.{◌≡◌, ◌≢◌, ◌⊎◌, ℕ, pos, Bool, false, cond, ◌&&◌, List, [], ◌∷◌, ◌++◌, take, length, Option, Some, None}
use Rattle.std.specs.FinMap.{get}
use Rattle.obj_kinds.specs.declared.node.Node.{Node}
use Rattle.obj_kinds.specs.declared.op.Pid.{Pid}
use Rattle.obj_kinds.specs.declared.op.Op.TheVariants.{Incr}
use Rattle.obj_kinds.specs.declared.op.Reply.TheVariants.{Number}
use Rattle.schema_kinds.specs.declared.class.Class.{Class}
use Rattle.schema_kinds.specs.declared.key.Key.{Key}
use Rattle.schema_kinds.specs.declared.record.Record.{Record}
use Rattle.schema_kinds.specs.declared.record.Part.{Part}
use Rattle.schema_kinds.specs.declared.record.Part.TheVariants.{Put, Del}
use Rattle.schema_kinds.specs.Classes.{IsBelow}
use Rattle.schema_kinds.specs.Worlds.{World, Change}
use Rattle.record_layout.specs.Rows.{data_node}
use Rattle.storage_map.specs.SoundWorlds.{IsSoundAt, HasSide, has_key_node}
use Rattle.storage_map.specs.Keys.{Side, sides_of}
use Rattle.store_core.specs.Machine.{State}
use Rattle.store_core.specs.Guard.{HoldsToEnd}
use Rattle.object_calls.specs.Extents.{counter_node, extent_at}
use Rattle.object_calls.specs.Keys.{MovedKey, MovedSide, ManySide, many_sides, members_node, target_key}
use Rattle.object_calls.specs.Saves.{is_key}
use Rattle.object_runs.specs.ObjectMachine.{Own, Within, Desks, desk_at, view}
use Rattle.object_runs.specs.Causes.{Each, Has, Puts, keys_changed, sides_changed}
use Rattle.object_runs.specs.Invariant.{HoldsRow, HoldsShared, changes}

-- ---- ids that a save in progress drew

-- the entries of a process since the Begin of the save or delete that it is within, the newest first
abbrev pub entries_within : Option Within → List Own → List Own
entries_within None os = []
entries_within (Some w) os = take (length w.asked) os

-- the counter of the key's extent gave the key's id
abbrev pub Draws : Key → Own → Type 0
Draws key e = (e.op ≡ Incr (counter_node key.extent) (pos 1)) × ((i : ℕ) × (e.reply ≡ Number (pos i)) × (key.id ≡ i ∷ []))

-- the save that the process is within drew the key
abbrev pub IsDrawn : Desks → ℕ → Key → Type 0
IsDrawn o p key = (e : Own) × Has e (entries_within (desk_at o p).within (desk_at o p).own) × Draws key e

-- ---- what stands below a key node while the objects of a save are written

-- the record that a change puts under a key
abbrev pub put_in : Change → Key → Option Record
put_in [] key = None
put_in (Put k r ∷ change) key = cond (is_key key k) (Some r) (put_in change key)
put_in (Del k ∷ change) key = put_in change key

abbrev pub has_node_if : List Class → Key → Option Record → Node → Bool
has_node_if classes key None n = false
has_node_if classes key (Some r) n = has_key_node classes key r n

-- of an object that is written already its new entry stands, of one that comes later an old entry that is a new one too, and of one that
-- isn't saved its entry
abbrev pub stands_by : List Class → Option Record → Option Record → Option Record → Key → Node → Bool
stands_by classes (Some r) later was key n = has_key_node classes key r n
stands_by classes None (Some r) was key n = has_node_if classes key was n && has_key_node classes key r n
stands_by classes None None was key n = has_node_if classes key was n

-- whether an entry of the key stands below the node once all old entries are killed and the objects of `front`, but not those of `back`,
-- are written over the view
abbrev pub entry_stands : List Class → World → Change → Change → Key → Node → Bool
entry_stands classes v front back key n = stands_by classes (put_in front key) (put_in back key) (get v key) key n

-- then no other object of the extent has one there
abbrev pub IsVacant : List Class → World → Change → Key → Change → Node → Type 0
IsVacant classes v front key back n = (id : List ℕ) → id ≢ key.id → entry_stands classes v front back (record { extent = key.extent; id = id }) n ≡ false

-- ---- a save

-- no key stands twice in the change
abbrev pub AreDistinct : Change → Type 0
AreDistinct [] = Unit {0}
AreDistinct (Put key r ∷ change) = (changes change key ≡ false) × AreDistinct change
AreDistinct (Del key ∷ change) = (changes change key ≡ false) × AreDistinct change

-- ---- a delete

-- no object of the members' extent names the key by its one side
abbrev pub IsUnnamed : List Class → World → Key → ManySide → Type 0
IsUnnamed classes v key m =
    (k : Key) (r : Record) (u : Side) (id : List ℕ) → get v k ≡ Some r → HasSide u (sides_of classes r) → u.target ≡ Some id → k.extent ≡ extent_at classes m.class → u.name ≡ m.side
    → target_key classes u.class id ≢ key

-- ---- what is known

module _ (classes : List Class) (s : State) (o : Desks) (p : Pid) where
  -- the object has the class that it has in the view, or its key was drawn by this save
  abbrev pub IsKnownOrDrawn : Key → Record → Type 0
  IsKnownOrDrawn key r = ((old : Record) × (get (view o p.0) key ≡ Some old) × (old.class ≡ r.class)) ⊎ IsDrawn o p.0 key

  -- the new node of a key that moves is held, and was vacant when the object was written
  abbrev pub IsTakenNode : Change → Key → Change → Option Node → Type 0
  IsTakenNode front key back None = Unit {0}
  IsTakenNode front key back (Some n) = HoldsToEnd s.holds p n × IsVacant classes (view o p.0) front key back n

  -- the new target of a one side that moves is put by the save, or is in the view with its row held; it is at or below the declared class
  abbrev pub IsMetTarget : Change → MovedSide → Option (List ℕ) → Type 0
  IsMetTarget change m None = Unit {0}
  IsMetTarget change m (Some id) =
      ((q : Record) × Puts change (target_key classes m.class id) q × IsBelow classes q.class m.class)
      ⊎ ((q : Record) × (get (view o p.0) (target_key classes m.class id) ≡ Some q) × IsBelow classes q.class m.class
      × HoldsShared s.holds p (data_node (target_key classes m.class id)))

  -- one object of a save, between those before and those behind it
  pub record IsSafePut (change front : Change) (key : Key) (r : Record) (back : Change) : Type 0 where
    pub row : HoldsRow s.holds p key
    pub sound : IsSoundAt classes key r
    pub known : IsKnownOrDrawn key r
    pub keys : Each (λ (m : MovedKey). IsTakenNode front key back m.new) (keys_changed classes (view o p.0) key r)
    pub sides : Each (λ (m : MovedSide). IsMetTarget change m m.new) (sides_changed classes (view o p.0) key r)

  abbrev pub IsSafePart : Change → Change → Part → Change → Type 0
  IsSafePart change front (Put key r) back = IsSafePut change front key r back
  IsSafePart change front (Del key) back = ⊥

  -- the objects of a save in order, where those of `front` come before
  abbrev pub AreSafe : Change → Change → Change → Type 0
  AreSafe change front [] = Unit {0}
  AreSafe change front (x ∷ back) = IsSafePart change front x back × AreSafe change (front ++ x ∷ []) back

  -- ---- a delete

  -- a many side of the object has no member, and the node below which these would stand is held
  pub record HasNoMembers (key : Key) (m : ManySide) : Type 0 where
    pub held : HoldsToEnd s.holds p (members_node classes m key.id)
    pub unnamed : IsUnnamed classes (view o p.0) key m

  pub record IsSafeDelete (key : Key) : Type 0 where
    pub row : HoldsRow s.holds p key
    pub object : Record
    pub there : get (view o p.0) key ≡ Some object
    pub members : Each (HasNoMembers key) (many_sides classes object.class)

  -- ---- the change of a save or a delete that may commit

  pub data IsSafeChange (change : Change) : Type 0 where
    Saves : AreDistinct change → AreSafe change [] change → IsSafeChange change
    Deletes : (key : Key) → change ≡ Del key ∷ [] → IsSafeDelete key → IsSafeChange change
