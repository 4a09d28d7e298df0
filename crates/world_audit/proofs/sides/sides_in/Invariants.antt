use Rattle.std.proofs.Common.{◌≡◌, ◌++◌, map, length}
use Rattle.storage_map.specs.Entries.{with_fields}
use Rattle.world_audit.specs.Sides.{side_seen, sides_with}
use Rattle.world_audit.proofs.sides.sides_in.Given as goal

-- the sides so far, and those that are left
abbrev pub invariant-loop-next : goal.invariant-loop-next
invariant-loop-next l = map side_seen l.sides.items ++ sides_with (with_fields l.props l.fields) ≡ sides_with (with_fields l.fn.props l.fn.fields)

abbrev pub decreases-loop-next : goal.decreases-loop-next
decreases-loop-next l = length (with_fields l.props l.fields)
