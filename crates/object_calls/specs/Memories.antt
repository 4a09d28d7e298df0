-- What calls of objects take from the objects in memory, and leave in it.
use Rattle.std.specs.Prelude.{ℕ, Bool, false, cond, ◌&&◌, ◌||◌, List, [], ◌∷◌, filter, Option, None, Some, is_none, is_some}
use Rattle.obj_kinds.specs.declared.name.ClassName.{ClassName}
use Rattle.obj_kinds.specs.declared.cause.Cause.{Cause}
use Rattle.schema_kinds.specs.declared.key.Key.{Key}
use Rattle.schema_kinds.specs.declared.record.Record.{Record}
use Rattle.object_calls.specs.Keys.{ManySide}
use Rattle.object_calls.specs.Loads.{LoadCall}
use Rattle.object_calls.specs.Reach.{reached}
use Rattle.object_calls.specs.Saves.{Drawn, ToSave, is_key}

-- what is seen of a live object; one that can be stored has an extent
pub record Seen : Type 0 where
  pub class : ClassName
  pub extent : Option ClassName
  pub id : Option (List ℕ)
  pub level : ℕ

pub record Memories (M : Type 0) : Type 0 where
  -- the numbers of the live objects, rising
  pub live : M → List ℕ
  pub seen : M → ℕ → Option Seen
  -- the OREFs in the slots, items, pairs, parts and members of an object
  pub refs : M → ℕ → List ℕ
  -- it is marked as modified, or a part in its slots is, at any depth
  pub is_marked : M → ℕ → Bool
  -- the first rule of its class that it breaks
  pub fault : M → ℕ → Option Cause
  -- its record, where these ids are drawn
  pub record_of : M → Drawn → ℕ → Record
  -- a new object with a record under the key of a load, at its level; the caller holds it
  pub with_loaded : LoadCall → Record → M → M × ℕ
  -- the caller holds a live object
  pub held : ℕ → M → M
  pub with_level : ℕ → ℕ → M → M
  -- new objects get the ids that were drawn for them, and these objects lose their marks
  pub with_saved : Drawn → List ℕ → M → M
  -- whether the one side of a member names the holder, by id or OREF; and the two name each other by OREFs from then on
  pub names_holder : M → ManySide → ℕ → ℕ → Bool
  pub with_member : ManySide → ℕ → ℕ → M → M

abbrev pub key_by : Option ClassName → Option (List ℕ) → Option Key
key_by (Some extent) (Some id) = Some (record { extent = extent; id = id })
key_by _ _ = None

abbrev pub key_of : Option Seen → Option Key
key_of None = None
key_of (Some s) = key_by s.extent s.id

abbrev pub has_key : Key → Option Key → Bool
has_key key None = false
has_key key (Some k) = is_key key k

-- an object that can be stored and isn't yet
abbrev pub is_new : Option Seen → Bool
is_new None = false
is_new (Some s) = is_some s.extent && is_none s.id

abbrev pub is_stored : Option Seen → Bool
is_stored None = false
is_stored (Some s) = is_some s.extent

module _ {M : Type 0} (memories : Memories M) where
  -- the live object of a key
  abbrev pub live_from : M → Key → List ℕ → Option ℕ
  live_from m key [] = None
  live_from m key (n ∷ ns) = cond (has_key key (key_of (memories.seen m n))) (Some n) (live_from m key ns)

  abbrev pub live_with : M → Key → Option ℕ
  live_with m key = live_from m key (memories.live m)

  -- a persistent object counts as modified where it is new, or it or a part of it is marked
  abbrev pub is_modified : M → ℕ → Bool
  is_modified m n = is_stored (memories.seen m n) && (is_new (memories.seen m n) || memories.is_marked m n)

  -- what a save of the root writes: the modified persistent objects that it reaches, in rising number
  unfoldable pub written : M → ℕ → List ℕ
  written m root = filter (is_modified m) (reached (memories.refs m) (memories.live m) root)

  abbrev pub fault_or : Option Cause → Option Cause → Option Cause
  fault_or None rest = rest
  fault_or (Some x) rest = Some x

  -- the first rule that one of the objects breaks
  abbrev pub first_fault : M → List ℕ → Option Cause
  first_fault m [] = None
  first_fault m (n ∷ ns) = fault_or (memories.fault m n) (first_fault m ns)

  abbrev pub extent_or : ClassName → Option ClassName → ClassName
  extent_or class None = class
  extent_or class (Some extent) = extent

  abbrev pub to_save : M → ℕ → Option Seen → List ToSave → List ToSave
  to_save m n None rest = rest
  to_save m n (Some s) rest = record { number = n; extent = extent_or s.class s.extent; id = s.id; level = s.level; record_with = λ drawn. memories.record_of m drawn n } ∷ rest

  abbrev pub all_to_save : M → List ℕ → List ToSave
  all_to_save m [] = []
  all_to_save m (n ∷ ns) = to_save m n (memories.seen m n) (all_to_save m ns)
