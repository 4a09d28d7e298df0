use Rattle.obj_props.proofs.ContentLaws.{no_object}
use Rattle.obj_props.proofs.FindLaws.{ok_read, ok_slot, ok_content, err_missing}
use Rattle.obj_props.proofs.get.find.Goals as goal

pub returns-in-Some-clause-read : goal.returns-in-Some-clause-read
returns-in-Some-clause-read c = ok_read c.args.schema.now c.args.table.now c.args.oref.0 c.args.name.now c.in-Some.obj.now c.in-Some.ensures c.requires.fits c.found_in.result c.found_in.ensures.ok

pub returns-in-Some-clause-slot : goal.returns-in-Some-clause-slot
returns-in-Some-clause-slot c = ok_slot c.args.schema.now c.args.table.now c.args.oref.0 c.args.name.now c.in-Some.obj.now c.in-Some.ensures c.requires.fits c.found_in.result c.found_in.ensures.ok

pub returns-in-Some-clause-content : goal.returns-in-Some-clause-content
returns-in-Some-clause-content c = ok_content c.args.schema.now c.args.table.now c.args.oref.0 c.args.name.now c.in-Some.obj.now c.in-Some.ensures c.requires.fits c.found_in.result c.found_in.ensures.ok

pub returns-in-Some-clause-err : goal.returns-in-Some-clause-err
returns-in-Some-clause-err c = err_missing c.args.schema.now c.args.table.now c.args.oref.0 c.args.name.now c.in-Some.obj.now c.in-Some.ensures c.found_in.result c.found_in.ensures.err

pub returns-in-None-clause-err : goal.returns-in-None-clause-err
returns-in-None-clause-err c = no_object c.args.schema.now c.args.table.now c.args.oref.0 c.args.name.now c.in-None.ensures
