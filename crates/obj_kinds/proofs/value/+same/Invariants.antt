use Rattle.std.proofs.Common.{◌≡◌, length, map, drop}
use Rattle.obj_kinds.specs.Values.{each_same, same_value}
use Rattle.obj_kinds.proofs.value.+same.Given as goal

-- the values so far are the same, so those that are left decide
abbrev pub invariant-same_values-loop-at : goal.invariant-same_values-loop-at
invariant-same_values-loop-at l = record {
  as_long : length l.left ≡ length l.right;
  rest : each_same (map same_value (drop l.at l.left)) (drop l.at l.right) ≡ each_same (map same_value l.left) l.right;
}
