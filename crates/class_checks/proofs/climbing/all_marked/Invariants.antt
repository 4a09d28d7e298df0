use Rattle.std.proofs.Common.{◌≡◌, ◌++◌, drop}
use Rattle.class_checks.specs.Climbing.{all_true}
use Rattle.class_checks.proofs.climbing.all_marked.Given as goal

abbrev pub invariant-loop-row : goal.invariant-loop-row
invariant-loop-row l = l.marks ++ all_true (drop l._row-index l.links) ≡ all_true l.links
