use Rattle.std.proofs.Common.{◌≡◌, [], length, IsTrue}
use Rattle.std.specs.List.{list_all}
use Rattle.world_audit.specs.Laws.{is_within}
use Rattle.world_audit.specs.Finds.{with_nodes}
use Rattle.world_audit.proofs.found.find_all.Given as goal

-- with the nodes that are left all are found
abbrev pub invariant-loop-pair : goal.invariant-loop-pair
invariant-loop-pair l = IsTrue (list_all is_within l.rest) × (with_nodes l.schema l.nodes l.finds.entries l.rest ≡ with_nodes l.schema l.nodes [] l.nodes)

abbrev pub decreases-loop-pair : goal.decreases-loop-pair
decreases-loop-pair l = length l.rest
