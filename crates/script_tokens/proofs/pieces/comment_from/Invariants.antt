use Rattle.std.proofs.Common.{◌≡◌, ◌≤◌, ◌+◌, length}
use Rattle.script_tokens.specs.ScriptPieces.{comment_from}
use Rattle.script_tokens.proofs.pieces.comment_from.Given as goal

abbrev pub invariant-loop-z : goal.invariant-loop-z
invariant-loop-z l = (comment_from l.gap l.at l.z ≡ comment_from l.gap 2 l.initial.z) × (l.at + length l.z ≡ length l.initial.z + 2) × (2 ≤ l.at)

abbrev pub decreases-loop-z : goal.decreases-loop-z
decreases-loop-z l = length l.z
