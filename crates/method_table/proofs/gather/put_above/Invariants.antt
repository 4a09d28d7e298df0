use Rattle.std.proofs.Common.{◌≡◌, drop}
use Rattle.schema_kinds.specs.Classes.{class_names}
use Rattle.method_table.specs.Places.{put_above}
use Rattle.method_table.proofs.gather.put_above.Given as goal

-- what is left to put makes the same table
abbrev pub invariant-loop-name : goal.invariant-loop-name
invariant-loop-name l = put_above (class_names l.schema) l.tables l.table (drop l.name-index l.supers) ≡ put_above (class_names l.schema) l.tables l.initial.table l.supers
