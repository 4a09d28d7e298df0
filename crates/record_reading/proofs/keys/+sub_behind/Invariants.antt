use Rattle.std.proofs.Common.{length}
use Rattle.record_reading.proofs.keys.+sub_behind.Given as goal

abbrev pub decreases-sub_behind : goal.decreases-sub_behind
decreases-sub_behind l = length l.front.now
