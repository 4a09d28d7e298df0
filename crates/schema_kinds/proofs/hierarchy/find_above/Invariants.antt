use Rattle.schema_kinds.specs.Links.{AreAllAbove}
use Rattle.schema_kinds.proofs.hierarchy.find_above.Given as goal

abbrev pub invariant-loop-start : goal.invariant-loop-start
invariant-loop-start l = AreAllAbove l.links l.start l.above
