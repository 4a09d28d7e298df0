use Rattle.std.proofs.Common.{◌≡◌, ◌++◌, length}
use Rattle.storage_map.specs.Entries.{with_fields, index_entries, valued_empty}
use Rattle.storage_map.proofs.entry_nodes.push_indexes.Given as goal

-- the entries so far, and those that are left
abbrev pub invariant-loop-index : goal.invariant-loop-index
invariant-loop-index l =
    l.nodes ++ valued_empty (index_entries l.key l.indexes (with_fields l.props l.fields)) ≡ l.initial.nodes ++ valued_empty (index_entries l.key l.fn.indexes (with_fields l.props l.fields))

abbrev pub decreases-loop-index : goal.decreases-loop-index
decreases-loop-index l = length l.indexes
