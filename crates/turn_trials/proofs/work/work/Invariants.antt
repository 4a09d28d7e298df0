use Rattle.std.proofs.Common.{length}
use Rattle.turn_trials.proofs.Working.{IsWorking}
use Rattle.turn_trials.proofs.work.work.Given as goal

abbrev pub invariant-loop-op : goal.invariant-loop-op
invariant-loop-op g l = IsWorking l.fn.seat l.seat l.pid l.fn.plan.ops.items l.ops.items

abbrev pub decreases-loop-op : goal.decreases-loop-op
decreases-loop-op g l = length l.ops.items
