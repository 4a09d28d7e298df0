use Rattle.std.proofs.Common.{◌≡◌, length, map}
use Rattle.world_audit.specs.Least.{noted}
use Rattle.world_audit.specs.Marks.{lacking, mark_all}
use Rattle.world_audit.proofs.marks.mark_entries.Given as goal

-- with the entries that are left all are marked and noted
abbrev pub invariant-loop-entry : goal.invariant-loop-entry
invariant-loop-entry l = record {
  long : length l.marks.items ≡ length l.nodes;
  marks : mark_all l.nodes l.marks.items (map (λ e. e.0) l.rest) ≡ mark_all l.nodes l.initial.marks.items (map (λ e. e.0) l.entries);
  least : noted l.least (lacking l.nodes (map (λ e. e.0) l.rest)) ≡ noted l.initial.least (lacking l.nodes (map (λ e. e.0) l.entries));
}

abbrev pub decreases-loop-entry : goal.decreases-loop-entry
decreases-loop-entry l = length l.rest
