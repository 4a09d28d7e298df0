use Rattle.std.proofs.Common.{length}
use Rattle.storage_map.proofs.row_nodes.+push_arrays.Given as goal

abbrev pub decreases-push_arrays : goal.decreases-push_arrays
decreases-push_arrays l = length l.props.now
