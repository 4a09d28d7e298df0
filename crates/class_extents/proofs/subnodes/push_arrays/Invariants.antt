use Rattle.std.proofs.Common.{◌≡◌, ◌++◌, drop, filter_map}
use Rattle.class_extents.specs.Extents.{array_at}
use Rattle.class_extents.proofs.subnodes.push_arrays.Given as goal

abbrev pub invariant-loop-spot : goal.invariant-loop-spot
invariant-loop-spot l = l.words ++ filter_map (array_at l.trees) (drop l.spot-index l.spots) ≡ l.initial.words ++ filter_map (array_at l.trees) l.spots
