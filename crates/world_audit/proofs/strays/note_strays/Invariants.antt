use Rattle.std.proofs.Common.{◌≡◌, length, IsTrue}
use Rattle.std.specs.List.{list_all}
use Rattle.world_audit.specs.Laws.{is_within}
use Rattle.world_audit.specs.Strays.{note_strays}
use Rattle.world_audit.proofs.strays.note_strays.Given as goal

abbrev pub invariant-loop-pair : goal.invariant-loop-pair
invariant-loop-pair l = record {
  within : IsTrue (list_all is_within l.rest);
  least : note_strays l.schema l.finds.entries l.least l.rest l.marks ≡ note_strays l.schema l.finds.entries l.initial.least l.marked.nodes.now l.marked.marks.now;
}

abbrev pub decreases-loop-pair : goal.decreases-loop-pair
decreases-loop-pair l = length l.rest
