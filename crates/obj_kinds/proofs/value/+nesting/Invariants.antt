use Rattle.std.proofs.Common.{◌≡◌, map, drop}
use Rattle.obj_kinds.specs.Values.{all_nested, nested}
use Rattle.obj_kinds.proofs.value.+nesting.Given as goal

-- the values so far pass, so those that are left decide
abbrev pub invariant-are_nested-loop-value : goal.invariant-are_nested-loop-value
invariant-are_nested-loop-value l = all_nested l.most (map nested (drop l.value-index l.values)) ≡ all_nested l.most (map nested l.values)
