use Rattle.std.proofs.Common.{◌≡◌, ◌<◌, Some, length, slice_get, subst, sym}
use Rattle.oref_table.specs.declared.slot.Slot.TheViews.{out-Slot}
use Rattle.obj_shape.specs.Fitting.{IsElement}
use Rattle.prop_setting.proofs.ListLaws.{list-elements}
use Rattle.prop_setting.proofs.ReadLaws.{each-at, got-some, items-here, read-ok, some-slot}
use Rattle.prop_setting.proofs.list_gets.item_content.Goals as goal

pub unwrap-item-requires : goal.unwrap-item-requires
unwrap-item-requires c =
    let list = c.requires.list in
    let there = got-some c.slot_in.result c.unwrap-slot.result (λ s. s.now) c.object_slots-slots.result.now c.args.spot.now.at c.unwrap-slot.ensures c.slot_in.ensures.some in
    let same = items-here c.args.table.now c.args.list.now.oref.0 c.args.spot.now.at list.0 c.object_slots-slots.result.now c.slot_items.result.now c.unwrap-slot.result.now list.1 c.object_slots-slots.ensures there c.slot_items.ensures in
    let less : c.args.place < length c.slot_items.result.now = subst (λ xs. c.args.place < length xs) (sym same) (subst (λ n. c.args.place < n) list.2 c.requires.place) in
    some-slot c.slot_in-2.result c.slot_items.result.now c.args.place c.slot_in-2.ensures.none less

pub returns-clause-read : goal.returns-clause-read
returns-clause-read c =
    let list = c.requires.list in
    let there = got-some c.slot_in.result c.unwrap-slot.result (λ s. s.now) c.object_slots-slots.result.now c.args.spot.now.at c.unwrap-slot.ensures c.slot_in.ensures.some in
    let same = items-here c.args.table.now c.args.list.now.oref.0 c.args.spot.now.at list.0 c.object_slots-slots.result.now c.slot_items.result.now c.unwrap-slot.result.now list.1 c.object_slots-slots.ensures there c.slot_items.ensures in
    let item = got-some c.slot_in-2.result c.unwrap-item.result (λ s. s.now) c.slot_items.result.now c.args.place c.unwrap-item.ensures c.slot_in-2.ensures.some in
    let got = subst (λ xs. slice_get xs c.args.place ≡ Some c.unwrap-item.result.now) same item in
    let each = list-elements c.args.list.now.schema.now c.args.table.now c.args.list.now.oref.0 c.args.spot.now.at c.args.spot.now.item.now list.0 c.requires.fits list.1 list.3 in
    read-ok c.args.list.now.schema.now c.args.table.now c.args.spot.now.item.now (out-Slot c.unwrap-item.result.now) c.element_content.result c.element_content.ensures
    (each-at (λ s. IsElement c.args.list.now.schema.now c.args.table.now c.args.spot.now.item.now (out-Slot s)) list.0 c.args.place c.unwrap-item.result.now each got)
