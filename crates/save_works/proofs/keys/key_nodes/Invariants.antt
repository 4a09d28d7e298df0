use Rattle.std.proofs.Common.{◌≡◌, ◌++◌, length}
use Rattle.save_works.specs.Works.{unique_nodes, uniques_at}
use Rattle.save_works.proofs.keys.key_nodes.Given as goal

-- the nodes so far, and those of the indexes that are left
abbrev pub invariant-loop-index : goal.invariant-loop-index
invariant-loop-index l = l.nodes ++ unique_nodes (uniques_at l.of.key.now l.indexes l.of.props.now l.of.fields.now) ≡ unique_nodes (uniques_at l.of.key.now l.of.indexes.now l.of.props.now l.of.fields.now)

abbrev pub decreases-loop-index : goal.decreases-loop-index
decreases-loop-index l = length l.indexes
