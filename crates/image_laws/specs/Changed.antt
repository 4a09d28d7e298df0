-- What a save or delete of an object writes, and the world whose image the globals have then.
use Rattle.std.specs.Prelude.{◌≡◌, ℕ, List, Option, None, Some}
use Rattle.std.specs.FinMap.{get, insert, remove, entries}
use Rattle.obj_kinds.specs.declared.name.ClassName.{ClassName}
use Rattle.obj_kinds.specs.declared.node.Node.{Node}
use Rattle.obj_kinds.specs.declared.op.Pid.{Pid}
use Rattle.schema_kinds.specs.declared.class.Class.{Class}
use Rattle.schema_kinds.specs.declared.key.Key.{Key}
use Rattle.schema_kinds.specs.declared.record.Record.{Record}
use Rattle.schema_kinds.specs.Classes.{extent_of}
use Rattle.schema_kinds.specs.Worlds.{World}
use Rattle.record_layout.specs.Rows.{Globals}
use Rattle.record_layout.specs.Schemas.{IsStorable}
use Rattle.storage_map.specs.Worlds.{IsKeyOf}
use Rattle.record_reading.specs.Laws.{IsStoredAt}
use Rattle.world_images.specs.Images.{IsEvenExtent, IsOfClass, changed}
use Rattle.store_core.specs.Machine.{State, reply}
use Rattle.store_calls.specs.Calls.{Tag, Got}
use Rattle.object_calls.specs.Edits.{edits_of}
use Rattle.object_calls.specs.Extents.{refuses_none}
use Rattle.object_calls.specs.Reading.{read}
use Rattle.read_laws.specs.Undisturbed.{undisturbed, HasFewElements}
use Rattle.read_laws.specs.Shown.{ShowsAt}

-- the nodes of each key are as the image of the world has them
abbrev pub ShowsWorld : List Class → Globals → World → Type 0
ShowsWorld classes g w = (key : Key) → ShowsAt classes g w key

-- the globals after the kills and then the sets that a save or delete writes for the key
abbrev pub AreWritten : List Class → Key → Option Record → Option Record → Globals → Globals → Type 0
AreWritten classes key old new g after = (n : Node) → get after n ≡ changed (edits_of classes key old new) g n

-- the key is one of the extent of the class, where the world has an object of the class under it or none
pub record IsChangeOf (classes : List Class) (w : World) (key : Key) (class : ClassName) : Type 0 where
  pub real : IsKeyOf classes key
  pub extent : extent_of classes class ≡ Some key.extent
  -- entries of one name in the extent have as many values, as in each extent of a linked schema
  pub even : IsEvenExtent classes key.extent
  pub old : IsOfClass class (get w key)

-- a saved record is in the world then, and a deleted one isn't; all others are as they were
abbrev pub SavesShow : Type 0
SavesShow =
    (classes : List Class) (key : Key) (r : Record) (g after : Globals) (w : World) → IsChangeOf classes w key r.class → ShowsWorld classes g w → AreWritten classes key (get w key) (Some r) g after
    → ShowsWorld classes after (insert w key r)

abbrev pub DeletesShow : Type 0
DeletesShow =
    (classes : List Class) (key : Key) (class : ClassName) (g after : Globals) (w : World) → IsChangeOf classes w key class → ShowsWorld classes g w → AreWritten classes key (get w key) None g after
    → ShowsWorld classes after (remove w key)

-- a read of the key then answers the record that was saved, and none where it was deleted
abbrev pub SavedAreRead : Type 0
SavedAreRead =
    (classes : List Class) (key : Key) (r : Record) (g : Globals) (w : World) (tag : Tag) (most : ℕ) (s : State) (p : Pid) → IsChangeOf classes w key r.class → ShowsWorld classes g w
    → AreWritten classes key (get w key) (Some r) g s.globals → IsStorable classes r.class → IsStoredAt classes key r → HasFewElements key (entries s.globals) most
    → undisturbed (reply s p) (read classes key tag most refuses_none) ≡ Some (Got (Some r))

abbrev pub DeletedAreGone : Type 0
DeletedAreGone =
    (classes : List Class) (key : Key) (class : ClassName) (g : Globals) (w : World) (tag : Tag) (most : ℕ) (s : State) (p : Pid) → IsChangeOf classes w key class → ShowsWorld classes g w
    → AreWritten classes key (get w key) None g s.globals → HasFewElements key (entries s.globals) most
    → undisturbed (reply s p) (read classes key tag most refuses_none) ≡ Some (Got None)
