use Rattle.schema_kinds.specs.declared.kind.Item.TheVariants as of
use Rattle.prop_setting.proofs.CopyLaws.{part_refused, part_set}
use Rattle.prop_setting.proofs.ElementLaws.{held_object, nothing_part, nothing_refused}
use Rattle.prop_setting.proofs.TakeLaws.{takes-no_part}
use Rattle.prop_setting.proofs.set.set_part.Goals as goal

pub set_copy-requires-clause-held : goal.set_copy-requires-clause-held
set_copy-requires-clause-held c = held_object c.args.table.now c.args.with c.in-To.held c.in-To.is c.requires.held

pub returns-in-Plain-clause-ok : goal.returns-in-Plain-clause-ok
returns-in-Plain-clause-ok c =
    nothing_part c.args.spot.now.schema.now c.args.table.now c.set_nothing.new.table c.args.spot.now.oref.0 c.args.spot.now.at c.args.spot.now.level c.args.class.now c.args.with c.in-Plain.value c.set_nothing.result c.in-Plain.is c.set_nothing.ensures.ok

pub returns-in-Plain-clause-err : goal.returns-in-Plain-clause-err
returns-in-Plain-clause-err c =
    nothing_refused c.args.spot.now.schema.now c.args.table.now c.set_nothing.new.table (of.Serial c.args.class.now) c.args.with c.in-Plain.value c.set_nothing.result c.in-Plain.is c.set_nothing.ensures.err

pub returns-in-Plain-clause-fits : goal.returns-in-Plain-clause-fits
returns-in-Plain-clause-fits c = λ slot. c.set_nothing.ensures.fits c.args.spot.now.schema.now (takes-no_part c.args.spot.now.schema.now c.args.table.now c.args.spot.now.oref.0 c.args.spot.now.at c.args.class.now slot) c.requires.fits

pub returns-in-To-clause-ok : goal.returns-in-To-clause-ok
returns-in-To-clause-ok c =
    part_set c.args.spot.now.schema.now c.args.table.now c.set_copy.new.table c.args.spot.now.level c.args.spot.now.oref.0 c.args.spot.now.at c.args.class.now c.args.with c.in-To.held c.set_copy.result c.in-To.is c.set_copy.ensures.ok

pub returns-in-To-clause-err : goal.returns-in-To-clause-err
returns-in-To-clause-err c =
    part_refused c.args.spot.now.schema.now c.args.table.now c.set_copy.new.table c.args.class.now c.args.with c.in-To.held c.set_copy.result c.in-To.is c.set_copy.ensures.err
