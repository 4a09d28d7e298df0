use Rattle.std.proofs.Common.{◌≡◌, length}
use Rattle.storage_map.specs.Entries.{with_fields, value_of}
use Rattle.storage_map.proofs.entry_nodes.value_named.Given as goal

-- the property of that name wasn't passed
abbrev pub invariant-loop-next : goal.invariant-loop-next
invariant-loop-next l = value_of l.name (with_fields l.props l.fields) ≡ value_of l.name (with_fields l.fn.props l.fn.fields)

abbrev pub decreases-loop-next : goal.decreases-loop-next
decreases-loop-next l = length (with_fields l.props l.fields)
