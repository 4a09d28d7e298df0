use Rattle.std.proofs.Common.{◌≡◌}
use Rattle.class_checks.specs.Climbing.{climb_marks}
use Rattle.class_checks.proofs.climbing.mark_climbs.Given as goal

abbrev pub invariant-loop-step : goal.invariant-loop-step
invariant-loop-step l = l.marks ≡ climb_marks l._step l.links
