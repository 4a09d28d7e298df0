use Rattle.std.proofs.Common.{◌≡◌, ◌++◌, length, map}
use Rattle.storage_map.specs.Entries.{with_fields}
use Rattle.save_works.specs.Works.{side_seen, sides_by}
use Rattle.save_works.proofs.sides.moved_from.Given as goal

-- those so far, and those of the properties that are left
abbrev pub invariant-loop-next : goal.invariant-loop-next
invariant-loop-next l = map side_seen l.moved ++ sides_by l.rest (with_fields l.props l.fields) ≡ sides_by l.olds (with_fields l.fn.props l.fn.fields)

abbrev pub decreases-loop-next : goal.decreases-loop-next
decreases-loop-next l = length (with_fields l.props l.fields)
