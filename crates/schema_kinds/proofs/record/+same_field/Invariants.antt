use Rattle.std.proofs.Common.{◌≡◌, length, map, drop}
use Rattle.schema_kinds.specs.SameFields.{each_same, each_pair_same, same_field}
use Rattle.schema_kinds.proofs.record.+same_field.Given as goal

-- the fields so far are the same, so those that are left decide
abbrev pub invariant-same_fields-loop-at : goal.invariant-same_fields-loop-at
invariant-same_fields-loop-at l = record {
  as_long : length l.left ≡ length l.right;
  rest : each_same (map same_field (drop l.at l.left)) (drop l.at l.right) ≡ each_same (map same_field l.left) l.right;
}

-- and so the elements
abbrev pub invariant-same_pairs-loop-at : goal.invariant-same_pairs-loop-at
invariant-same_pairs-loop-at l = record {
  as_long : length l.left ≡ length l.right;
  rest : each_pair_same (map (λ p. (p.0, same_field p.1)) (drop l.at l.left)) (drop l.at l.right) ≡ each_pair_same (map (λ p. (p.0, same_field p.1)) l.left) l.right;
}
