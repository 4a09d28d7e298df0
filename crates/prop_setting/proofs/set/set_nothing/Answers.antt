use Rattle.oref_table.specs.Filling.{IsHeldFor}
use Rattle.prop_setting.proofs.ElementLaws.{put_none}
use Rattle.prop_setting.proofs.TakeLaws.{takes-none_from}
use Rattle.prop_setting.proofs.set.set_nothing.Goals as goal

pub put-requires-clause-held : goal.put-requires-clause-held
unfolding IsHeldFor
put-requires-clause-held c = tt

pub returns-then-is_nothing-clause-ok : goal.returns-then-is_nothing-clause-ok
returns-then-is_nothing-clause-ok c = (c.is_nothing.ensures.0 c.if-is_nothing.true, put_none c.args.table.now c.put.new.table c.args.spot.now.oref.0 c.args.spot.now.at c.put.ensures.memory)

pub returns-then-is_nothing-clause-fits : goal.returns-then-is_nothing-clause-fits
returns-then-is_nothing-clause-fits c = λ classes takes fits. c.put.ensures.fits classes (takes-none_from classes c.args.table.now c.args.spot.now.oref.0 c.args.spot.now.at takes) fits
