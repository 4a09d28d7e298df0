use Rattle.std.proofs.Common.{◌≡◌, ◌++◌, length}
use Rattle.world_audit.specs.Runs.{front_run}
use Rattle.world_audit.proofs.run.front_run.Given as goal

-- the nodes so far, and those that are left
abbrev pub invariant-loop-pair : goal.invariant-loop-pair
invariant-loop-pair l = l.run ++ front_run l.row l.rest ≡ front_run l.row l.pairs

abbrev pub decreases-loop-pair : goal.decreases-loop-pair
decreases-loop-pair l = length l.rest
