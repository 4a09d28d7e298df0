-- The operations of a change, one after another through the store machine.
use Rattle.std.specs.Prelude.{List, [], ◌∷◌, ◌++◌, map, Option}
use Rattle.obj_kinds.specs.declared.node.Node.{Node}
use Rattle.obj_kinds.specs.declared.value.Value.{Value}
use Rattle.obj_kinds.specs.declared.op.Op.{Op}
use Rattle.obj_kinds.specs.declared.op.Op.TheVariants.{Set, Kill}
use Rattle.obj_kinds.specs.declared.op.Pid.{Pid}
use Rattle.schema_kinds.specs.declared.class.Class.{Class}
use Rattle.schema_kinds.specs.declared.key.Key.{Key}
use Rattle.schema_kinds.specs.declared.record.Record.{Record}
use Rattle.storage_map.specs.declared.edits.Edits.{Edits}
use Rattle.store_core.specs.Machine.{State, after}
use Rattle.object_calls.specs.Edits.{edits_of}
use Rattle.image_laws.specs.Changed.{AreWritten}

-- the store after these operations of a process
abbrev pub played : State → Pid → List Op → State
played s p [] = s
played s p (op ∷ ops) = played (after s p op) p ops

abbrev pub set_of : Node × Value → Op
set_of e = Set e.0 e.1

-- the kills of a change and then its sets, as a save or delete of one object asks for them
abbrev pub writes_of : Edits → List Op
writes_of e = map Kill (e.entry_kills ++ e.row_kills) ++ map set_of (e.row_sets ++ e.entry_sets)

-- they leave the globals that all kills and then all sets at once leave
abbrev pub WritesAreWritten : Type 0
WritesAreWritten =
    (classes : List Class) (key : Key) (old new : Option Record) (s : State) (p : Pid) → AreWritten classes key old new s.globals (played s p (writes_of (edits_of classes key old new))).globals
