use Rattle.std.proofs.Common.{[], sym, ap, ◌∙◌}
use Rattle.std.proofs.lemmas.Bool.{eqb-true}
use Rattle.oref_table.specs.declared.slot.Slot.{Slot}
use Rattle.oref_table.specs.declared.slot.Slot.TheViews.{out-Slot}
use Rattle.obj_shape.specs.Records.{element_field, part_fields}
use Rattle.obj_validity.specs.Weights.{room_after, share}
use Rattle.obj_validity.proofs.StepLaws.{items_left, field_stop}
use Rattle.obj_validity.proofs.ShareLaws.{share_empty}
use Rattle.obj_validity.proofs.weight.+weight.Goals as goal

pub list_room-returns-then-is_empty : goal.list_room-returns-then-is_empty
list_room-returns-then-is_empty t c =
    c.taken.ensures
    ∙ ap (room_after c.args.room)
    (sym (share_empty (λ (s : Slot). element_field c.args.of.now.table.now [] (part_fields c.args.depth c.args.of.now.schema.now c.args.of.now.table.now []) c.args.item.now (out-Slot s)) c.args.slots.now
    (eqb-true _ _ (sym c.if-is_empty.ensures))))

pub items_room-returns : goal.items_room-returns
items_room-returns t c =
    sym (items_left (λ (s : Slot). share (element_field c.args.of.now.table.now [] (part_fields c.args.depth c.args.of.now.schema.now c.args.of.now.table.now []) c.args.item.now (out-Slot s))) c.loop-slot.rest.now c.loop-slot.left c.in_default.ensures.cases)
    ∙ c.loop-slot.invariant

pub fields_room-returns-in_err-left : goal.fields_room-returns-in_err-left
fields_room-returns-in_err-left t c =
    c.from_residual.ensures
    ∙ sym (field_stop c.args.of.now.table.now [] (part_fields c.args.depth c.args.of.now.schema.now c.args.of.now.table.now []) c.loop-slot.wanted.now c.in-Some-split_first.others.now c.loop-slot.rest.now c.in-Some.more.now
    c.in-Some-split_first.prop.now c.in-Some.slot.now c.loop-slot.left c.in-Some-split_first.ensures.cases.0 c.in-Some.ensures.cases.0 c.in_err-left.ensures)
    ∙ c.loop-slot.invariant
