use Rattle.std.proofs.Common.{length}
use Rattle.obj_kinds.proofs.node.+compare_subs.Given as goal

abbrev pub decreases-compare_subs : goal.decreases-compare_subs
decreases-compare_subs l = length l.left.now
