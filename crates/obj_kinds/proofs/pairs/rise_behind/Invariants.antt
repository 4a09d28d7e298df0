use Rattle.std.proofs.Common.{◌≡◌, drop}
use Rattle.obj_kinds.specs.Rising.{is_chain}
use Rattle.obj_kinds.proofs.pairs.rise_behind.Given as goal

-- the nodes so far rise, so those that are left decide
abbrev pub invariant-loop-pair : goal.invariant-loop-pair
invariant-loop-pair l = is_chain l.last (drop l.pair-index l.rest) ≡ is_chain l.first l.rest
