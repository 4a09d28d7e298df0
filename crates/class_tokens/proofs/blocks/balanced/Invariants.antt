use Rattle.std.proofs.Common.{◌≡◌, ◌≤◌, ◌+◌, ◌∷◌, [], length, false}
use Rattle.class_tokens.specs.ClassBlocks.{balanced_from}
use Rattle.class_tokens.proofs.blocks.balanced.Given as goal

abbrev pub invariant-loop-z : goal.invariant-loop-z
invariant-loop-z l = (balanced_from l.due.items l.quoted l.at l.z ≡ balanced_from (l.close ∷ []) false 1 l.initial.z) × (l.at + length l.z ≡ length l.initial.z + 1) × (1 ≤ l.at) × (1 ≤ length l.due.items)

abbrev pub decreases-loop-z : goal.decreases-loop-z
decreases-loop-z l = length l.z
