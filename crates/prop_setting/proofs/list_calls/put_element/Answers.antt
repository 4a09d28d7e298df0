use Rattle.oref_table.specs.Filling.{slot_from}
use Rattle.prop_setting.proofs.ListLaws.{list-elements, takes-set}
use Rattle.prop_setting.proofs.list_calls.put_element.Goals as goal

pub returns-in-Ok-clause-fits : goal.returns-in-Ok-clause-fits
returns-in-Ok-clause-fits c =
    let list = c.requires.list in
    let element = c.in-Ok.ensures.fits c.args.list.now.schema.now c.requires.named c.requires.fits c.requires.given c.requires.takes in
    let each = list-elements c.args.list.now.schema.now c.args.table.now c.args.list.now.oref.0 c.args.spot.now.at c.args.spot.now.item.now list.0 c.requires.fits list.1 list.3 in
    let takes = takes-set c.args.list.now.schema.now c.args.table.now c.args.list.now.oref.0 c.args.spot.now.at c.args.place c.args.spot.now.item.now list.0 (slot_from c.in-Ok.stand.filling) list.3 each element in
    c.let_back_go.ensures.fits c.args.list.now.schema.now (c.put_item.ensures.fits c.args.list.now.schema.now list.0 list.1 takes c.requires.fits)
