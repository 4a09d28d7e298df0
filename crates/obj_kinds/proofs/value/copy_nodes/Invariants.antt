use Rattle.std.proofs.Common.{◌≡◌, take}
use Rattle.obj_kinds.proofs.value.copy_nodes.Given as goal

-- the pairs so far are copied
abbrev pub invariant-loop-pair : goal.invariant-loop-pair
invariant-loop-pair l = l.copy ≡ take l.pair-index l.pairs
