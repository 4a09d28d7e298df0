use Rattle.oref_table.specs.Filling.{slot_from}
use Rattle.prop_setting.proofs.ArrayLaws.{array-elements, takes-pair}
use Rattle.prop_setting.proofs.StandLaws.{all-gone, back-after, gone-standing}
use Rattle.prop_setting.proofs.arrays.put_under.Goals as goal

pub put_pair-requires-clause-array : goal.put_pair-requires-clause-array
put_pair-requires-clause-array c =
    let array = c.requires.array in
    (array.0, array.1, (array-elements c.args.array.now.schema.now c.args.table.now c.args.array.now.oref.0 c.args.spot.now.at c.args.spot.now.item.now array.0 c.requires.fits array.1 array.3).0)

pub let_back_go-requires-in-Err-put_pair : goal.let_back_go-requires-in-Err-put_pair
let_back_go-requires-in-Err-put_pair c =
    back-after c.args.table.now c.put_pair.new.table c.drop_given.new.table c.in-Ok.stand.filling c.in-Err-put_pair.filling c.in-Ok.stand.back c.in-Err-put_pair.ensures.err c.in-Err-put_pair.ensures.back c.drop_given.ensures.memory (c.in-Ok.ensures.held c.requires.held).1

pub returns-in-Ok-put_pair-clause-fits : goal.returns-in-Ok-put_pair-clause-fits
returns-in-Ok-put_pair-clause-fits c =
    let array = c.requires.array in
    let element = c.in-Ok.ensures.fits c.args.array.now.schema.now c.requires.named c.requires.fits c.requires.given c.requires.takes in
    let each = array-elements c.args.array.now.schema.now c.args.table.now c.args.array.now.oref.0 c.args.spot.now.at c.args.spot.now.item.now array.0 c.requires.fits array.1 array.3 in
    let takes = takes-pair c.args.array.now.schema.now c.args.table.now c.args.array.now.oref.0 c.args.spot.now.at c.args.spot.now.item.now c.args.key (slot_from c.in-Ok.stand.filling) array.0 array.3 each c.requires.legal element in
    c.let_back_go.ensures.fits c.args.array.now.schema.now (c.in-Ok-put_pair.ensures.fits c.args.array.now.schema.now array.0 array.1 takes c.requires.fits)

pub returns-in-Err-put_pair-clause-err : goal.returns-in-Err-put_pair-clause-err
returns-in-Err-put_pair-clause-err c =
    let gone = gone-standing c.args.array.now.schema.now c.args.table.now 0 c.args.spot.now.item.now c.args.with c.in-Ok.stand c.requires.no_copy (c.in-Ok.ensures.ok c.args.array.now.schema.now 0) in
    (all-gone c.args.table.now c.put_pair.new.table c.drop_given.new.table c.let_back_go-in-Err-put_pair.new.table _ c.in-Ok.stand.filling c.in-Err-put_pair.filling c.in-Ok.stand.back c.in-Err-put_pair.ensures.err c.in-Err-put_pair.ensures.back c.drop_given.ensures.memory c.let_back_go-in-Err-put_pair.ensures.memory gone, tt)
