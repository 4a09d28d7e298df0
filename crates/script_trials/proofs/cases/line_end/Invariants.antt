use Rattle.std.proofs.Common.{◌≤◌, ◌-◌, length}
use Rattle.script_trials.proofs.cases.line_end.Given as goal

abbrev pub invariant-loop-end : goal.invariant-loop-end
invariant-loop-end l = (l.at ≤ l.end) × (l.end ≤ length l.z)

abbrev pub decreases-loop-end : goal.decreases-loop-end
decreases-loop-end l = length l.z - l.end
