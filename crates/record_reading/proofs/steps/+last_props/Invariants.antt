use Rattle.std.proofs.Common.{length}
use Rattle.record_reading.proofs.steps.+last_props.Given as goal

abbrev pub decreases-last_props : goal.decreases-last_props
decreases-last_props l = length l.line.now
