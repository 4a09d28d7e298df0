use Rattle.std.proofs.Common.{ap, ◌∙◌}
use Rattle.oref_table.specs.Refs.{refs_in}
use Rattle.obj_shape.specs.Slots.{slots_of}
use Rattle.open_plan.proofs.MadeOf.{object_of_record, both_ok}
use Rattle.open_plan.proofs.SlotsOf.{slots_bare}
use Rattle.open_plan.proofs.ends.make.Goals as goal

pub make-requires-clause-no_refs : goal.make-requires-clause-no_refs
make-requires-clause-no_refs c = ap refs_in c.in_ok-slots.ensures ∙ slots_bare c.props_of-props.result.now c.as_slice.result.now

pub returns-clause-made : goal.returns-clause-made
returns-clause-made c =
    both_ok c.make.result
    (λ h is number.
    object_of_record c.args.found.now.schema.now c.args.found.now.key c.args.found.now.level c.args.found.now.read c.args.table.now c.make.new.self c.in_ok-class.class c.in_ok-extent.extent c.in_ok-slots.slots
    c.as_slice.result.now h.number c.in_ok-class.ensures c.in_ok-extent.ensures
    (c.in_ok-slots.ensures ∙ ap (λ props. slots_of props c.as_slice.result.now) c.props_of-props.ensures) c.as_slice.ensures is number)
    c.make.ensures.ok c.make.ensures.held
