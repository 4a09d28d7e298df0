use Rattle.std.proofs.Common.{length}
use Rattle.storage_map.proofs.row_nodes.+last_props.Given as goal

abbrev pub decreases-last_props : goal.decreases-last_props
decreases-last_props l = length l.line.now
