use Rattle.std.proofs.Common.{◌≡◌, ◌+◌, map, drop}
use Rattle.store_core.specs.Volume.{total, sub_volume}
use Rattle.store_core.proofs.volume.without_subs.Given as goal

-- what is left pays for the subscripts that are left
abbrev pub invariant-loop-sub : goal.invariant-loop-sub
invariant-loop-sub l = l.fn.room + total (map sub_volume (drop l.sub-index l.subs)) ≡ l.left + total (map sub_volume l.subs)
