use Rattle.std.proofs.Common.{◌≡◌, ◌++◌, length}
use Rattle.storage_map.specs.Changes.{stale}
use Rattle.storage_map.proofs.edits.stale_nodes.Given as goal

-- the nodes so far, and those that are left
abbrev pub invariant-loop-pair : goal.invariant-loop-pair
invariant-loop-pair l = l.nodes ++ stale l.rest l.new ≡ stale l.old l.new

abbrev pub decreases-loop-pair : goal.decreases-loop-pair
decreases-loop-pair l = length l.rest
