use Rattle.oref_table.specs.Filling.{slot_from}
use Rattle.prop_setting.proofs.ListLaws.{list-elements, takes-insert}
use Rattle.prop_setting.proofs.StandLaws.{all-gone, back-after, gone-standing}
use Rattle.prop_setting.proofs.list_calls.add_element.Goals as goal

pub let_back_go-requires-in-Err-add_item : goal.let_back_go-requires-in-Err-add_item
let_back_go-requires-in-Err-add_item c =
    back-after c.args.table.now c.add_item.new.table c.drop_given.new.table c.in-Ok.stand.filling c.in-Err-add_item.filling c.in-Ok.stand.back c.in-Err-add_item.ensures.err c.in-Err-add_item.ensures.back c.drop_given.ensures.memory (c.in-Ok.ensures.held c.requires.held).1

pub returns-in-Ok-add_item-clause-fits : goal.returns-in-Ok-add_item-clause-fits
returns-in-Ok-add_item-clause-fits c =
    let list = c.requires.list in
    let element = c.in-Ok.ensures.fits c.args.list.now.schema.now c.requires.named c.requires.fits c.requires.given c.requires.takes in
    let each = list-elements c.args.list.now.schema.now c.args.table.now c.args.list.now.oref.0 c.args.spot.now.at c.args.spot.now.item.now list.0 c.requires.fits list.1 list.3 in
    let takes = takes-insert c.args.list.now.schema.now c.args.table.now c.args.list.now.oref.0 c.args.spot.now.at c.args.before c.args.spot.now.item.now list.0 (slot_from c.in-Ok.stand.filling) list.3 each element in
    c.let_back_go.ensures.fits c.args.list.now.schema.now (c.in-Ok-add_item.ensures.fits c.args.list.now.schema.now list.0 list.1 takes c.requires.fits)

pub returns-in-Err-add_item-clause-err : goal.returns-in-Err-add_item-clause-err
returns-in-Err-add_item-clause-err c =
    let gone = gone-standing c.args.list.now.schema.now c.args.table.now 0 c.args.spot.now.item.now c.args.with c.in-Ok.stand c.requires.no_copy (c.in-Ok.ensures.ok c.args.list.now.schema.now 0) in
    (all-gone c.args.table.now c.add_item.new.table c.drop_given.new.table c.let_back_go-in-Err-add_item.new.table _ c.in-Ok.stand.filling c.in-Err-add_item.filling c.in-Ok.stand.back c.in-Err-add_item.ensures.err c.in-Err-add_item.ensures.back c.drop_given.ensures.memory c.let_back_go-in-Err-add_item.ensures.memory gone, tt)
