use Rattle.prop_setting.proofs.ElementLaws.{held_object, object_lacks, value_object, value_plain, value_refused}
use Rattle.prop_setting.proofs.TakeLaws.{takes-given}
use Rattle.prop_setting.proofs.set.set_value.Goals as goal

pub set_oref_text-requires-clause-held : goal.set_oref_text-requires-clause-held
set_oref_text-requires-clause-held c = held_object c.args.table.now c.args.with c.in-To.held c.in-To.is c.requires.held

pub returns-in-Plain-clause-ok : goal.returns-in-Plain-clause-ok
returns-in-Plain-clause-ok c = value_plain c.args.table.now c.set_plain.new.table c.args.spot.now.oref.0 c.args.spot.now.at c.args.with c.in-Plain.value c.set_plain.result c.in-Plain.is c.set_plain.ensures.ok

pub returns-in-Plain-clause-err : goal.returns-in-Plain-clause-err
returns-in-Plain-clause-err c = value_refused c.args.table.now c.set_plain.new.table c.args.with c.in-Plain.value c.set_plain.result c.in-Plain.is c.set_plain.ensures.err

pub returns-in-Plain-clause-fits : goal.returns-in-Plain-clause-fits
returns-in-Plain-clause-fits c = λ classes i slot kind named given fits.
    c.set_plain.ensures.fits classes (takes-given classes c.args.table.now c.args.spot.now.oref.0 c.args.spot.now.at i c.args.with c.in-Plain.value c.in-Plain.is slot kind given) fits

pub returns-in-To-clause-ok : goal.returns-in-To-clause-ok
returns-in-To-clause-ok c = value_object c.args.table.now c.set_oref_text.new.table c.args.spot.now.oref.0 c.args.spot.now.at c.args.with c.in-To.held c.set_oref_text.result c.in-To.is c.set_oref_text.ensures.ok

pub returns-in-To-clause-err : goal.returns-in-To-clause-err
returns-in-To-clause-err c = object_lacks c.args.table.now c.set_oref_text.new.table c.args.with c.in-To.held c.set_oref_text.result c.in-To.is c.set_oref_text.ensures.err

pub returns-in-To-clause-fits : goal.returns-in-To-clause-fits
returns-in-To-clause-fits c = λ classes i slot kind named given fits. c.set_oref_text.ensures.fits classes i slot kind named fits
