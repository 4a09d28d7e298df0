use Rattle.std.proofs.Common.{◌≡◌, length}
use Rattle.world_audit.specs.Least.{note_each}
use Rattle.world_audit.specs.Marks.{lacking_of, mark_finds}
use Rattle.world_audit.proofs.marks.put_marks.Given as goal

-- with what is left all is marked and noted
abbrev pub invariant-loop-key : goal.invariant-loop-key
invariant-loop-key l = record {
  long : length l.marks.items ≡ length l.on.nodes.now;
  marks : mark_finds l.on.schema.now l.on.nodes.now l.marks.items l.key-iterator ≡ mark_finds l.on.schema.now l.on.nodes.now l.initial.marks.items l.finds.entries;
  least : note_each (lacking_of l.on.schema.now l.on.nodes.now) l.least l.key-iterator ≡ note_each (lacking_of l.on.schema.now l.on.nodes.now) l.initial.least l.finds.entries;
}
