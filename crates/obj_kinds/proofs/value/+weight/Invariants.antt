use Rattle.std.proofs.Common.{◌≡◌, ◌+◌, map, drop}
use Rattle.obj_kinds.specs.Values.{items_weight, weight}
use Rattle.obj_kinds.proofs.value.+weight.Given as goal

-- what is left pays for the values that are left
abbrev pub invariant-without_values-loop-value : goal.invariant-without_values-loop-value
invariant-without_values-loop-value l = l.fn.room + items_weight (map weight (drop l.value-index l.values)) ≡ l.left + items_weight (map weight l.values)
