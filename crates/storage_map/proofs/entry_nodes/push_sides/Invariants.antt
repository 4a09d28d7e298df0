use Rattle.std.proofs.Common.{◌≡◌, ◌++◌, length}
use Rattle.storage_map.specs.Entries.{with_fields, side_entries, valued_empty}
use Rattle.storage_map.proofs.entry_nodes.push_sides.Given as goal

-- the entries so far, and those that are left
abbrev pub invariant-loop-next : goal.invariant-loop-next
invariant-loop-next l = l.nodes ++ valued_empty (side_entries l.key (with_fields l.props l.fields)) ≡ l.initial.nodes ++ valued_empty (side_entries l.key (with_fields l.fn.props l.fn.fields))

abbrev pub decreases-loop-next : goal.decreases-loop-next
decreases-loop-next l = length (with_fields l.props l.fields)
