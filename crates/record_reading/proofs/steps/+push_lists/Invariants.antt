use Rattle.std.proofs.Common.{length}
use Rattle.record_reading.proofs.steps.+push_lists.Given as goal

abbrev pub decreases-push_lists : goal.decreases-push_lists
decreases-push_lists l = length l.line.now
