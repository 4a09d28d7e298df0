use Rattle.std.proofs.Common.{◌≡◌, ◌≤◌, ◌+◌, length}
use Rattle.class_tokens.specs.ClassBlocks.{comment_from}
use Rattle.class_tokens.proofs.blocks.comment.Given as goal

abbrev pub invariant-loop-z : goal.invariant-loop-z
invariant-loop-z l = (comment_from l.at l.z ≡ comment_from 2 l.initial.z) × (l.at + length l.z ≡ length l.initial.z + 2) × (2 ≤ l.at)

abbrev pub decreases-loop-z : goal.decreases-loop-z
decreases-loop-z l = length l.z
