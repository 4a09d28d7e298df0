use Rattle.std.proofs.Common.{◌≡◌, length}
use Rattle.world_audit.specs.Least.{note_each}
use Rattle.world_audit.specs.Firsts.{second_of}
use Rattle.world_audit.proofs.firsts.note_seconds_of.Given as goal

abbrev pub invariant-loop-node : goal.invariant-loop-node
invariant-loop-node l = note_each (second_of l.firsts.entries l.key) l.least l.rest ≡ note_each (second_of l.firsts.entries l.key) l.initial.least l.nodes

abbrev pub decreases-loop-node : goal.decreases-loop-node
decreases-loop-node l = length l.rest
