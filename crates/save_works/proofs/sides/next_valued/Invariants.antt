use Rattle.std.proofs.Common.{◌≡◌, length}
use Rattle.storage_map.specs.Entries.{with_fields}
use Rattle.save_works.proofs.sides.next_valued.Given as goal

-- no property that has a field was passed
abbrev pub invariant-loop-prop : goal.invariant-loop-prop
invariant-loop-prop l = with_fields l.props l.fields ≡ with_fields l.fn.props l.fields

abbrev pub decreases-loop-prop : goal.decreases-loop-prop
decreases-loop-prop l = length l.props
