use Rattle.schema_kinds.specs.declared.kind.Item.TheVariants as of
use Rattle.prop_setting.proofs.ElementLaws.{held_object, nothing_refused, nothing_set, object_refused, object_set}
use Rattle.prop_setting.proofs.TakeLaws.{takes-none}
use Rattle.prop_setting.proofs.set.set_reference.Goals as goal

pub set_object-requires-clause-held : goal.set_object-requires-clause-held
set_object-requires-clause-held c = held_object c.args.table.now c.args.with c.in-To.held c.in-To.is c.requires.held

pub returns-in-Plain-clause-ok : goal.returns-in-Plain-clause-ok
returns-in-Plain-clause-ok c =
    nothing_set c.args.spot.now.schema.now c.args.table.now c.set_nothing.new.table c.args.spot.now.oref.0 c.args.spot.now.at (of.Ref c.args.class.now) c.args.with c.in-Plain.value c.set_nothing.result c.in-Plain.is c.set_nothing.ensures.ok

pub returns-in-Plain-clause-err : goal.returns-in-Plain-clause-err
returns-in-Plain-clause-err c =
    nothing_refused c.args.spot.now.schema.now c.args.table.now c.set_nothing.new.table (of.Ref c.args.class.now) c.args.with c.in-Plain.value c.set_nothing.result c.in-Plain.is c.set_nothing.ensures.err

pub returns-in-Plain-clause-fits : goal.returns-in-Plain-clause-fits
returns-in-Plain-clause-fits c = λ slot fits. c.set_nothing.ensures.fits c.args.spot.now.schema.now (takes-none c.args.spot.now.schema.now c.args.table.now c.args.spot.now.oref.0 c.args.spot.now.at c.args.class.now slot) fits

pub returns-in-To-clause-ok : goal.returns-in-To-clause-ok
returns-in-To-clause-ok c =
    object_set c.args.spot.now.schema.now c.args.table.now c.set_object.new.table c.args.spot.now.oref.0 c.args.spot.now.at (of.Ref c.args.class.now) c.args.with c.in-To.held c.set_object.result c.in-To.is c.set_object.ensures.ok

pub returns-in-To-clause-err : goal.returns-in-To-clause-err
returns-in-To-clause-err c =
    object_refused c.args.spot.now.schema.now c.args.table.now c.set_object.new.table (of.Ref c.args.class.now) c.args.with c.in-To.held c.set_object.result c.in-To.is c.set_object.ensures.err
