use Rattle.std.proofs.Common.{◌+◌, length}
use Rattle.schema_kinds.specs.Links.{unmarked}
use Rattle.schema_kinds.proofs.Closure.{Worked}
use Rattle.schema_kinds.proofs.links.marks_above.Given as goal

abbrev pub invariant-loop-place : goal.invariant-loop-place
invariant-loop-place l = Worked l.links l.start l.marks l.ahead

-- each turn takes a place away, and puts there only what it marks
abbrev pub decreases-loop-place : goal.decreases-loop-place
decreases-loop-place l = unmarked l.marks + length l.ahead
