use Rattle.std.proofs.Common.{◌≡◌}
use Rattle.world_audit.specs.Least.{note_pairs}
use Rattle.world_audit.specs.Firsts.{nodes_of_found, seconds_for}
use Rattle.world_audit.proofs.firsts.note_seconds.Given as goal

abbrev pub invariant-loop-key : goal.invariant-loop-key
invariant-loop-key l = note_pairs (nodes_of_found l.schema) (seconds_for l.firsts.entries) l.least l.key-iterator ≡ note_pairs (nodes_of_found l.schema) (seconds_for l.firsts.entries) l.initial.least l.finds.entries
