use Rattle.std.proofs.Common.{◌≡◌, ◌++◌, length, map}
use Rattle.save_works.specs.Works.{kill_of}
use Rattle.save_works.proofs.writes.push_kills.Given as goal

-- the kills so far, and those of the nodes that are left
abbrev pub invariant-loop-node : goal.invariant-loop-node
invariant-loop-node l = l.askings ++ map kill_of l.rest ≡ l.initial.askings ++ map kill_of l.nodes

abbrev pub decreases-loop-node : goal.decreases-loop-node
decreases-loop-node l = length l.rest
