use Rattle.std.proofs.Common.{◌-◌, sym, ap, ◌∙◌}
use Rattle.obj_validity.specs.Faults.{part_fault, props_fault}
use Rattle.obj_validity.proofs.StepLaws.{fault_step}
use Rattle.obj_validity.proofs.validity.+valid.Goals as goal

pub part_fault-returns : goal.part_fault-returns
part_fault-returns t c =
    c.props_fault.ensures
    ∙ ap (λ ps. props_fault c.args.of.now.table.now (part_fault (c.args.depth - 1) c.args.of.now.schema.now c.args.of.now.table.now) ps c.args.slots.now) c.props_of.ensures
    ∙ sym (fault_step c.args.depth c.args.of.now.schema.now c.args.of.now.table.now c.args.class.now c.args.slots.now c.if-depth-eq0.false)
