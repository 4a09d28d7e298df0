use Rattle.std.proofs.Common.{◌≡◌, ◌≤◌, ◌+◌, length}
use Rattle.class_tokens.specs.declared.blocks.Part.TheVariants.{Code}
use Rattle.class_tokens.specs.ClassBlocks.{body_from}
use Rattle.class_tokens.proofs.blocks.body.Given as goal

abbrev pub invariant-loop-z : goal.invariant-loop-z
invariant-loop-z l = (body_from l.depth l.part l.at l.z ≡ body_from 0 Code 1 l.initial.z) × (l.at + length l.z ≡ length l.initial.z + 1) × (1 ≤ l.at) × (l.depth ≤ l.at)

abbrev pub decreases-loop-z : goal.decreases-loop-z
decreases-loop-z l = length l.z
