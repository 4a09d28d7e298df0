use Rattle.std.proofs.Common.{◌∙◌, ap, subst, length}
use Rattle.obj_kinds.specs.Order.{node_cmp}
use Rattle.obj_kinds.specs.Search.{IsHit, IsGap}
use Rattle.world_audit.proofs.MarkLaws.{mark_hit, mark_gap, mark_long}
use Rattle.world_audit.proofs.marks.mark_node.Goals as goal

pub returns-in-Ok : goal.returns-in-Ok
returns-in-Ok c =
    let set_is = mark_hit c.args.nodes.now c.args.node.now c.args.marks.now.items c.in-Ok.at c.as_slice.ensures.rising c.requires (subst (λ es. IsHit node_cmp es c.args.node.now c.in-Ok.at) c.as_slice.ensures.pairs c.in-Ok.ensures.found) in
    record { marks = set_is; long = ap length set_is ∙ mark_long c.args.nodes.now c.args.node.now c.args.marks.now.items c.requires }

pub returns-in_default : goal.returns-in_default
returns-in_default c = record {
  marks = mark_gap c.args.nodes.now c.args.node.now c.args.marks.now.items c.in_default.field-0 c.requires (subst (λ es. IsGap node_cmp es c.args.node.now c.in_default.field-0) c.as_slice.ensures.pairs c.in_default.ensures.absent);
  long = c.requires;
}
