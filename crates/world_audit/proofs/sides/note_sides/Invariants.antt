use Rattle.std.proofs.Common.{drop, map, Option}
use Rattle.obj_kinds.specs.declared.node.Node.{Node}
use Rattle.world_audit.specs.Sides.{side_seen, IsOneOf, Notes}
use Rattle.world_audit.proofs.sides.note_sides.Given as goal

-- what notes the sides that are left has noted all
abbrev pub invariant-loop-side : goal.invariant-loop-side
invariant-loop-side l =
    (end : Option Node) → Notes l.among.schema.now l.among.finds.now.entries (IsOneOf l.key (map side_seen (drop l.side-index l.sides))) l.least end
    → Notes l.among.schema.now l.among.finds.now.entries (IsOneOf l.key (map side_seen l.sides)) l.initial.least end
