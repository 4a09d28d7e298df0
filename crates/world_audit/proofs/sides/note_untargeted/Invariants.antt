use Rattle.std.proofs.Common.{Option}
use Rattle.obj_kinds.specs.declared.node.Node.{Node}
use Rattle.world_audit.specs.Sides.{IsSideOfAny, Notes}
use Rattle.world_audit.proofs.sides.note_untargeted.Given as goal

-- what notes the sides that are left has noted all
abbrev pub invariant-loop-key : goal.invariant-loop-key
invariant-loop-key l =
    (end : Option Node) → Notes l.among.schema.now l.among.finds.now.entries (IsSideOfAny l.among.schema.now l.key-iterator) l.least end
    → Notes l.among.schema.now l.among.finds.now.entries (IsSideOfAny l.among.schema.now l.among.finds.now.entries) l.initial.least end
