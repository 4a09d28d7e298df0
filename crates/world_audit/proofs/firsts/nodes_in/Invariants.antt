use Rattle.std.proofs.Common.{◌≡◌, ◌++◌, length}
use Rattle.storage_map.specs.Entries.{with_fields}
use Rattle.world_audit.specs.Firsts.{unique_nodes}
use Rattle.world_audit.proofs.firsts.nodes_in.Given as goal

-- the nodes so far, and those of the indexes that are left
abbrev pub invariant-loop-index : goal.invariant-loop-index
invariant-loop-index l = l.nodes ++ unique_nodes l.key (with_fields l.class.props l.fields) l.rest ≡ unique_nodes l.key (with_fields l.class.props l.fields) l.class.indexes

abbrev pub decreases-loop-index : goal.decreases-loop-index
decreases-loop-index l = length l.rest
