use Rattle.std.proofs.Common.{◌≡◌, [], drop}
use Rattle.schema_kinds.specs.OwnGlobals.{put_all_globals}
use Rattle.schema_kinds.proofs.globals.find_globals.Given as goal

-- the globals so far, with those of the classes that are left
abbrev pub invariant-loop-class : goal.invariant-loop-class
invariant-loop-class l = put_all_globals l.names (drop l.class-index l.classes) l.globals ≡ put_all_globals l.names l.classes []
