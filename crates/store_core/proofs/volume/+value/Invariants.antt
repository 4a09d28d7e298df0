use Rattle.std.proofs.Common.{◌≡◌, ◌+◌, map, drop}
use Rattle.store_core.specs.Volume.{total, value_volume}
use Rattle.store_core.proofs.volume.+value.Given as goal

-- what is left pays for the values that are left
abbrev pub invariant-without_values-loop-value : goal.invariant-without_values-loop-value
invariant-without_values-loop-value l = l.fn.room + total (map value_volume (drop l.value-index l.values)) ≡ l.left + total (map value_volume l.values)
