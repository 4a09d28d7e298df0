use Rattle.std.proofs.Common.{◌≡◌}
use Rattle.world_audit.specs.Least.{note_each}
use Rattle.world_audit.specs.Counts.{low_of}
use Rattle.world_audit.proofs.counts.note_lows.Given as goal

abbrev pub invariant-loop-key : goal.invariant-loop-key
invariant-loop-key l = note_each (low_of l.nodes) l.least l.key-iterator ≡ note_each (low_of l.nodes) l.initial.least l.finds.entries
