use Rattle.std.proofs.Common.{◌≡◌, ◌≤◌, ◌+◌, length}
use Rattle.script_tokens.specs.ScriptPieces.{global_end}
use Rattle.script_tokens.proofs.pieces.global_end.Given as goal

abbrev pub invariant-loop-z : goal.invariant-loop-z
invariant-loop-z l = (global_end l.good l.at l.z ≡ global_end 1 1 l.initial.z) × (l.at + length l.z ≡ length l.initial.z + 1) × ((1 ≤ l.good) × (l.good ≤ l.at))

abbrev pub decreases-loop-z : goal.decreases-loop-z
decreases-loop-z l = length l.z
