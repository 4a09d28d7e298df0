use Rattle.std.proofs.Common.{◌≡◌, ◌++◌, length}
use Rattle.storage_map.specs.Entries.{with_fields}
use Rattle.save_works.specs.Works.{targets_in}
use Rattle.save_works.proofs.sides.targets_of.Given as goal

-- the targets so far, and those of the properties that are left
abbrev pub invariant-loop-next : goal.invariant-loop-next
invariant-loop-next l = l.targets ++ targets_in (with_fields l.props l.fields) ≡ targets_in (with_fields l.fn.props l.fn.fields)

abbrev pub decreases-loop-next : goal.decreases-loop-next
decreases-loop-next l = length (with_fields l.props l.fields)
