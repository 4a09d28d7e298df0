use Rattle.std.proofs.Common.{◌≡◌, ◌++◌, drop, filter_map}
use Rattle.class_extents.specs.Extents.{side_entry}
use Rattle.class_extents.proofs.entries.push_sides.Given as goal

abbrev pub invariant-loop-spot : goal.invariant-loop-spot
invariant-loop-spot l = l.entries ++ filter_map (side_entry l.trees) (drop l.spot-index l.spots) ≡ l.initial.entries ++ filter_map (side_entry l.trees) l.spots
