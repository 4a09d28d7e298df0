use Rattle.obj_kinds.specs.declared.value.Value.TheVariants as value
use Rattle.oref_table.specs.Filling.{IsHeldFor}
use Rattle.prop_setting.proofs.ElementLaws.{still-held}
use Rattle.prop_setting.proofs.TakeLaws.{takes-oref}
use Rattle.prop_setting.proofs.set.set_oref_text.Goals as goal

pub put-requires-clause-held : goal.put-requires-clause-held
unfolding IsHeldFor
put-requires-clause-held c = tt

pub let_go-requires : goal.let_go-requires
let_go-requires c = still-held c.args.table.now c.put.new.table c.args.held.number (value.Str c.in-Ok.text) c.put.ensures.holds c.requires.held

pub returns-in-Ok-clause-fits : goal.returns-in-Ok-clause-fits
returns-in-Ok-clause-fits c = λ classes i slot kind named fits.
    c.let_go.ensures.fits classes
    (c.put.ensures.fits classes
    (takes-oref classes c.args.table.now c.args.spot.now.oref.0 c.args.spot.now.at c.oref.result.0 i c.in-Ok.text c.in-Ok.ensures.text c.in-Ok.ensures.small slot kind named fits) fits)
