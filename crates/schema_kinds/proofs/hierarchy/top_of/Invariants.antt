use Rattle.std.proofs.Common.{◌≡◌}
use Rattle.schema_kinds.specs.Hierarchy.{top}
use Rattle.schema_kinds.proofs.hierarchy.top_of.Given as goal

abbrev pub invariant-loop-left : goal.invariant-loop-left
invariant-loop-left l = top l.left l.firsts l.here ≡ top l.most l.firsts l.start

abbrev pub decreases-loop-left : goal.decreases-loop-left
decreases-loop-left l = l.left
