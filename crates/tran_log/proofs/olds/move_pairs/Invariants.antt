use Rattle.std.proofs.Common.{◌≡◌, ◌+◌, ◌≤◌, ◌++◌, length, reverse, vec_len, vec_capacity}
use Rattle.tran_log.specs.Levels.{as_olds}
use Rattle.tran_log.proofs.olds.move_pairs.Given as goal

-- the moved pairs stand in falling order behind those that are left
abbrev pub invariant-loop-pair : goal.invariant-loop-pair
invariant-loop-pair l = record {
  pairs : as_olds l.pairs ++ reverse l.olds.items ≡ as_olds l.fn.pairs;
  room : vec_len l.olds + length l.pairs ≤ vec_capacity l.olds;
}

abbrev pub decreases-loop-pair : goal.decreases-loop-pair
decreases-loop-pair l = length l.pairs
