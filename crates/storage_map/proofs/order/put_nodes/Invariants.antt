use Rattle.std.proofs.Common.{◌≡◌, length}
use Rattle.storage_map.specs.Ordered.{put_all}
use Rattle.storage_map.proofs.order.put_nodes.Given as goal

-- the pairs that are left complete the map
abbrev pub invariant-loop-node : goal.invariant-loop-node
invariant-loop-node l = put_all l.map.entries l.rest ≡ put_all l.fn.map.entries l.fn.nodes

abbrev pub decreases-loop-node : goal.decreases-loop-node
decreases-loop-node l = length l.rest
