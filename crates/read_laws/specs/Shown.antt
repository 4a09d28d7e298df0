-- What a read shows of a world whose image the globals have.
use Rattle.std.specs.Prelude.{◌≡◌, ℕ, List, Some}
use Rattle.std.specs.FinMap.{get, entries}
use Rattle.obj_kinds.specs.declared.node.Node.{Node}
use Rattle.obj_kinds.specs.declared.op.Pid.{Pid}
use Rattle.schema_kinds.specs.declared.class.Class.{Class}
use Rattle.schema_kinds.specs.declared.key.Key.{Key}
use Rattle.schema_kinds.specs.declared.record.Record.{Record}
use Rattle.schema_kinds.specs.Worlds.{World}
use Rattle.record_layout.specs.Rows.{Globals}
use Rattle.record_layout.specs.Schemas.{IsStorable}
use Rattle.storage_map.specs.Worlds.{owner, image, IsKeyOf}
use Rattle.record_reading.specs.Laws.{IsStoredAt}
use Rattle.store_core.specs.Machine.{State, reply}
use Rattle.store_calls.specs.Calls.{Tag, Got}
use Rattle.object_calls.specs.Extents.{refuses_none}
use Rattle.object_calls.specs.Reading.{read}
use Rattle.read_laws.specs.Undisturbed.{undisturbed, HasFewElements}

-- what the world has at the key may stand there
abbrev pub HasStorable : List Class → World → Key → Type 0
HasStorable classes w key = (r : Record) → get w key ≡ Some r → IsStorable classes r.class × IsStoredAt classes key r

-- the nodes of the key are as the image of the world has them
abbrev pub ShowsAt : List Class → Globals → World → Key → Type 0
ShowsAt classes g w key = (n : Node) → owner classes n ≡ Some key → get g n ≡ image classes w n

-- a read answers what the world has at the key, whatever the other keys have in the globals
abbrev pub ReadsShowWorlds : Type 0
ReadsShowWorlds =
    (classes : List Class) (key : Key) (tag : Tag) (most : ℕ) (s : State) (p : Pid) (w : World) → HasFewElements key (entries s.globals) most
    → IsKeyOf classes key → HasStorable classes w key → ShowsAt classes s.globals w key
    → undisturbed (reply s p) (read classes key tag most refuses_none) ≡ Some (Got (get w key))
