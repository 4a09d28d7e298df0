use Rattle.std.proofs.Common.{refl}
use Rattle.oref_table.specs.Filling.{IsHeldFor, passed}
use Rattle.prop_setting.proofs.ElementLaws.{held_object}
use Rattle.prop_setting.proofs.StandLaws.{oref-plain, other-plain, other-stands, some-given}
use Rattle.prop_setting.proofs.stand.value_stand.Goals as goal

pub returns-in-Ok-clause-held : goal.returns-in-Ok-clause-held
unfolding IsHeldFor passed
returns-in-Ok-clause-held c = λ h. (tt, (held_object c.args.table.now c.args.with c.in-To.held c.in-To.is h, refl))

pub returns-in-Ok-clause-fits : goal.returns-in-Ok-clause-fits
returns-in-Ok-clause-fits c = λ classes named fits given takes. oref-plain classes c.args.table.now c.oref.result.0 c.in-Ok.text c.in-Ok.ensures.text c.in-Ok.ensures.small named fits

pub returns-in_default-clause-ok : goal.returns-in_default-clause-ok
returns-in_default-clause-ok c = other-stands c.args.table.now c.args.with c.in_default.not-To

pub returns-in_default-clause-held : goal.returns-in_default-clause-held
returns-in_default-clause-held c = λ h. (h, tt)

pub returns-in_default-clause-fits : goal.returns-in_default-clause-fits
returns-in_default-clause-fits c = λ classes named fits given takes. other-plain c.args.with c.in_default.not-To given takes

pub returns-in_default-clause-some : goal.returns-in_default-clause-some
returns-in_default-clause-some c = some-given c.args.with
