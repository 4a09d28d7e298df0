use Rattle.std.proofs.Common.{◌≡◌, ◌≤◌, ◌+◌, length}
use Rattle.class_tokens.specs.ClassBlocks.{storage_from}
use Rattle.class_tokens.proofs.blocks.storage.Given as goal

abbrev pub invariant-loop-z : goal.invariant-loop-z
invariant-loop-z l = (storage_from l.depth l.at l.z ≡ storage_from 0 1 l.initial.z) × (l.at + length l.z ≡ length l.initial.z + 1) × (1 ≤ l.at) × (l.depth ≤ l.at)

abbrev pub decreases-loop-z : goal.decreases-loop-z
decreases-loop-z l = length l.z
