use Rattle.std.proofs.Common.{subst, sym}
use Rattle.prop_setting.specs.Fits.{IsValue}
use Rattle.prop_setting.proofs.StandLaws.{copy-fits, object-held, object-some, reference-fits, value-elements}
use Rattle.prop_setting.proofs.stand.to_stand.Goals as goal

pub returns-in-Text-clause-fits : goal.returns-in-Text-clause-fits
returns-in-Text-clause-fits c = value-elements c.args.table.now c.args.item.now c.args.with c.value_stand.result (subst IsValue (sym c.in-Text.is) tt) c.value_stand.ensures.fits

pub returns-in-Whole-clause-fits : goal.returns-in-Whole-clause-fits
returns-in-Whole-clause-fits c = value-elements c.args.table.now c.args.item.now c.args.with c.value_stand-in-Whole.result (subst IsValue (sym c.in-Whole.is) tt) c.value_stand-in-Whole.ensures.fits

pub returns-in-Truth-clause-fits : goal.returns-in-Truth-clause-fits
returns-in-Truth-clause-fits c = value-elements c.args.table.now c.args.item.now c.args.with c.value_stand-in-Truth.result (subst IsValue (sym c.in-Truth.is) tt) c.value_stand-in-Truth.ensures.fits

pub returns-in-Ref-clause-held : goal.returns-in-Ref-clause-held
returns-in-Ref-clause-held c = object-held c.args.table.now c.args.with c.object_stand.result.filling c.object_stand.result.back c.object_stand.ensures.filling c.object_stand.ensures.back

pub returns-in-Ref-clause-fits : goal.returns-in-Ref-clause-fits
returns-in-Ref-clause-fits c = λ classes named fits given takes. reference-fits classes c.args.table.now c.args.item.now c.in-Ref.field-0 c.args.with c.object_stand.result.filling c.in-Ref.is c.object_stand.ensures.filling takes

pub returns-in-Ref-clause-some : goal.returns-in-Ref-clause-some
returns-in-Ref-clause-some c = object-some c.args.with c.object_stand.result.filling c.object_stand.ensures.filling

pub returns-in-Serial-clause-held : goal.returns-in-Serial-clause-held
returns-in-Serial-clause-held c = object-held c.args.table.now c.args.with c.object_stand-in-Serial.result.filling c.object_stand-in-Serial.result.back c.object_stand-in-Serial.ensures.filling c.object_stand-in-Serial.ensures.back

pub returns-in-Serial-clause-fits : goal.returns-in-Serial-clause-fits
returns-in-Serial-clause-fits c = λ classes named fits given takes. copy-fits classes c.args.table.now c.args.item.now c.in-Serial.field-0 c.args.with c.object_stand-in-Serial.result.filling c.in-Serial.is c.requires c.object_stand-in-Serial.ensures.filling
