use Rattle.std.proofs.Common.{subst}
use Rattle.schema_kinds.specs.declared.kind.Item.TheVariants as of
use Rattle.oref_table.specs.Filling.{IsHeldFor}
use Rattle.prop_setting.specs.Elements.{MayStand}
use Rattle.prop_setting.proofs.ElementLaws.{put_object}
use Rattle.prop_setting.proofs.TakeLaws.{takes-object}
use Rattle.prop_setting.proofs.set.set_object.Goals as goal

pub put-requires-clause-held : goal.put-requires-clause-held
unfolding IsHeldFor
put-requires-clause-held c = c.requires.held

pub returns-then-is_below-clause-ok : goal.returns-then-is_below-clause-ok
returns-then-is_below-clause-ok c = (
  subst (λ k. MayStand c.args.spot.now.schema.now c.args.table.now (of.Ref c.args.class.now) k) c.oref.ensures (c.is_below.ensures.0 c.if-is_below.true),
  put_object c.args.table.now c.put.new.table c.args.spot.now.oref.0 c.args.spot.now.at c.args.held c.put.ensures.memory,
)

pub returns-then-is_below-clause-fits : goal.returns-then-is_below-clause-fits
returns-then-is_below-clause-fits c = λ slot fits.
    let stands = subst (λ k. MayStand c.args.spot.now.schema.now c.args.table.now (of.Ref c.args.class.now) k) c.oref.ensures (c.is_below.ensures.0 c.if-is_below.true) in
    c.put.ensures.fits c.args.spot.now.schema.now (takes-object c.args.spot.now.schema.now c.args.table.now c.args.spot.now.oref.0 c.args.spot.now.at c.args.class.now c.args.held slot stands) fits
