use Rattle.std.proofs.Common.{◌≡◌, take}
use Rattle.read_plan.proofs.gathering.copy_arrays.Given as goal

-- the arrays so far are copied
abbrev pub invariant-loop-pairs : goal.invariant-loop-pairs
invariant-loop-pairs l = l.copy ≡ take l.pairs-index l.maps
