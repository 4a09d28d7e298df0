use Rattle.std.proofs.Common.{◌≡◌, ◌++◌, length}
use Rattle.world_audit.specs.Marks.{no_marks}
use Rattle.world_audit.proofs.marks.none_marked.Given as goal

abbrev pub invariant-loop-more : goal.invariant-loop-more
invariant-loop-more l = l.marks.items ++ no_marks l.rest ≡ no_marks l.nodes

abbrev pub decreases-loop-more : goal.decreases-loop-more
decreases-loop-more l = length l.rest
