use Rattle.std.proofs.Common.{◌≡◌, ◌≤◌, ◌+◌, length, false}
use Rattle.script_tokens.specs.ScriptPieces.{class_end}
use Rattle.script_tokens.proofs.pieces.class_end.Given as goal

abbrev pub invariant-loop-z : goal.invariant-loop-z
invariant-loop-z l = (class_end l.dotted l.at l.z ≡ class_end false 1 l.initial.z) × (l.at + length l.z ≡ length l.initial.z + 1) × (1 ≤ l.at)

abbrev pub decreases-loop-z : goal.decreases-loop-z
decreases-loop-z l = length l.z
