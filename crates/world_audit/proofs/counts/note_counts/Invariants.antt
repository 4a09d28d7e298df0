use Rattle.std.proofs.Common.{◌≡◌, length}
use Rattle.world_audit.specs.Least.{note_each}
use Rattle.world_audit.specs.Counts.{count_of}
use Rattle.world_audit.proofs.counts.note_counts.Given as goal

abbrev pub invariant-loop-class : goal.invariant-loop-class
invariant-loop-class l = note_each (count_of l.on.schema.now l.on.nodes.now) l.least l.rest ≡ note_each (count_of l.on.schema.now l.on.nodes.now) l.initial.least l.on.schema.now

abbrev pub decreases-loop-class : goal.decreases-loop-class
decreases-loop-class l = length l.rest
