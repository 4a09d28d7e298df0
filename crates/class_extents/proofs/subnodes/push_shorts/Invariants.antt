use Rattle.std.proofs.Common.{◌≡◌, ◌++◌, filter_map}
use Rattle.schema_kinds.specs.Hierarchy.{chain}
use Rattle.class_extents.specs.Extents.{short_at}
use Rattle.class_extents.proofs.subnodes.push_shorts.Given as goal

abbrev pub invariant-loop-left : goal.invariant-loop-left
invariant-loop-left l = l.words ++ filter_map (short_at l.trees) (chain l.left l.firsts l.here) ≡ l.initial.words ++ filter_map (short_at l.trees) (chain l.most l.firsts l.class)

abbrev pub decreases-loop-left : goal.decreases-loop-left
decreases-loop-left l = l.left
