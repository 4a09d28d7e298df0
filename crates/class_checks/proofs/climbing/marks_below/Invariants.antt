use Rattle.std.proofs.Common.{◌≡◌, ◌++◌, drop}
use Rattle.class_checks.specs.Climbing.{any_marks}
use Rattle.class_checks.proofs.climbing.marks_below.Given as goal

abbrev pub invariant-loop-row : goal.invariant-loop-row
invariant-loop-row l = l.marks ++ any_marks l.above (drop l.row-index l.links) ≡ any_marks l.above l.links
