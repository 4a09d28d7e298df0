use Rattle.std.proofs.Common.{◌≡◌, length}
use Rattle.world_audit.specs.Firsts.{put_firsts}
use Rattle.world_audit.proofs.firsts.put_firsts.Given as goal

abbrev pub invariant-loop-node : goal.invariant-loop-node
invariant-loop-node l = put_firsts l.firsts.entries l.id l.rest ≡ put_firsts l.initial.firsts.entries l.id l.nodes

abbrev pub decreases-loop-node : goal.decreases-loop-node
decreases-loop-node l = length l.rest
