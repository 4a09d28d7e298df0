use Rattle.std.proofs.Common.{◌+◌, arith}
use Rattle.oref_table.specs.Filling.{IsHeldFor}
use Rattle.oref_table.specs.declared.fill.Fill.TheVariants as fill
use Rattle.obj_props.proofs.PartLaws.{part-few, part-live}
use Rattle.prop_setting.proofs.ListLaws.{item-may, item-there, list-live, long-list}
use Rattle.prop_setting.proofs.ReadLaws.{item-part, list-held}
use Rattle.prop_setting.proofs.list_gets.make_item_part.Goals as goal

pub make-requires-clause-free : goal.make-requires-clause-free
make-requires-clause-free c = λ e i h k. cc

pub hold_again-again-requires-clause-live : goal.hold_again-again-requires-clause-live
hold_again-again-requires-clause-live c =
    part-live c.args.table.now c.make.new.self c.args.part.class c.args.part.extent c.args.part.level c.args.part.slots c.in_ok-held.held.number c.soundness.ensures c.in_ok-held.ensures.ok c.in_ok-held.ensures.held

pub hold_again-again-requires-clause-few : goal.hold_again-again-requires-clause-few
hold_again-again-requires-clause-few c =
    part-few c.args.table.now c.make.new.self c.args.part.class c.args.part.extent c.args.part.level c.args.part.slots c.in_ok-held.held.number c.soundness.ensures c.requires.no_refs c.in_ok-held.ensures.ok c.in_ok-held.ensures.held

pub fill_item-requires-clause-live : goal.fill_item-requires-clause-live
fill_item-requires-clause-live c =
    list-live c.hold_again-again.new.table c.args.holder.0 c.args.at c.requires.list.0
    (list-held c.args.table.now c.make.new.self c.hold_again-again.new.table c.args.part.class c.args.part.extent c.args.part.level c.args.part.slots c.in_ok-held.held.number c.args.holder.0 c.args.at c.requires.list.0 c.in_ok-held.ensures.ok c.hold_again-again.ensures.memory c.requires.list.1)

pub fill_item-requires-clause-place : goal.fill_item-requires-clause-place
fill_item-requires-clause-place c =
    item-may c.hold_again-again.new.table c.args.holder.0 c.args.at c.args.place (fill.To c.hold_again-again.result) c.requires.list.0
    (list-held c.args.table.now c.make.new.self c.hold_again-again.new.table c.args.part.class c.args.part.extent c.args.part.level c.args.part.slots c.in_ok-held.held.number c.args.holder.0 c.args.at c.requires.list.0 c.in_ok-held.ensures.ok c.hold_again-again.ensures.memory c.requires.list.1)
    (omega (arith, c.requires.list.2))

pub fill_item-requires-clause-there : goal.fill_item-requires-clause-there
fill_item-requires-clause-there c =
    item-there c.hold_again-again.new.table c.args.holder.0 c.args.at c.args.place c.requires.list.0
    (list-held c.args.table.now c.make.new.self c.hold_again-again.new.table c.args.part.class c.args.part.extent c.args.part.level c.args.part.slots c.in_ok-held.held.number c.args.holder.0 c.args.at c.requires.list.0 c.in_ok-held.ensures.ok c.hold_again-again.ensures.memory c.requires.list.1)
    (omega (arith, c.requires.list.2))

pub fill_item-requires-clause-held : goal.fill_item-requires-clause-held
unfolding IsHeldFor
fill_item-requires-clause-held c = c.hold_again-again.ensures.outside

pub returns-clause-memory : goal.returns-clause-memory
returns-clause-memory c = λ items list.
    item-part c.args.table.now c.make.new.self c.hold_again-again.new.table c.fill_item.new.table c.args.part.class c.args.part.extent c.args.part.level c.args.part.slots c.args.holder.0 c.args.at c.args.place c.in_ok-held.held.number c.hold_again-again.result items
    c.in_ok-held.ensures.ok c.in_ok-held.ensures.held c.hold_again-again.ensures.memory c.hold_again-again.ensures.held c.fill_item.ensures.memory list
    (omega (arith, long-list c.args.table.now c.args.holder.0 c.args.at (c.args.place + 1) items c.requires.list list))
