use Rattle.std.proofs.Common.{◌≡◌}
use Rattle.world_audit.specs.Least.{note_each}
use Rattle.world_audit.specs.Finds.{broken_of}
use Rattle.world_audit.proofs.found.note_all_broken.Given as goal

abbrev pub invariant-loop-found : goal.invariant-loop-found
invariant-loop-found l = note_each broken_of l.least l.found-iterator ≡ note_each broken_of l.initial.least l.finds.entries
