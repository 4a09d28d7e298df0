use Rattle.oref_table.specs.Filling.{IsHeldFor}
use Rattle.prop_setting.proofs.ElementLaws.{put_text}
use Rattle.prop_setting.proofs.TakeLaws.{takes-text}
use Rattle.prop_setting.proofs.set.set_plain.Goals as goal

pub put-requires-clause-held : goal.put-requires-clause-held
unfolding IsHeldFor
put-requires-clause-held c = tt

pub returns-in-Str-clause-ok : goal.returns-in-Str-clause-ok
returns-in-Str-clause-ok c = put_text c.args.table.now c.put.new.table c.args.spot.now.oref.0 c.args.spot.now.at c.args.value c.in-Str.text c.in-Str.is c.put.ensures.memory

pub returns-in-Str-clause-fits : goal.returns-in-Str-clause-fits
returns-in-Str-clause-fits c = λ classes takes fits. c.put.ensures.fits classes (takes-text classes c.args.table.now c.args.spot.now.oref.0 c.args.spot.now.at c.args.value c.in-Str.text c.in-Str.is takes) fits
