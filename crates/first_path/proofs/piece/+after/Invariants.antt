use Rattle.std.proofs.Common.{length}
use Rattle.first_path.proofs.piece.+after.Given as goal

abbrev pub decreases-after : goal.decreases-after
decreases-after l = length l.literal.now
