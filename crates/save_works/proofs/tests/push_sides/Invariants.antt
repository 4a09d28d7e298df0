use Rattle.std.proofs.Common.{◌≡◌, ◌++◌, length, map}
use Rattle.std.specs.List.{flat_map}
use Rattle.save_works.specs.Works.{side_seen, side_test}
use Rattle.save_works.proofs.tests.push_sides.Given as goal

-- the tests so far, and those of the sides that are left
abbrev pub invariant-loop-side : goal.invariant-loop-side
invariant-loop-side l = l.askings ++ flat_map (side_test l.schema l.put.keys) (map side_seen l.rest) ≡ l.initial.askings ++ flat_map (side_test l.schema l.put.keys) (map side_seen l.sides)

abbrev pub decreases-loop-side : goal.decreases-loop-side
decreases-loop-side l = length l.rest
