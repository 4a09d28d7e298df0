use Rattle.std.proofs.Common.{ap}
use Rattle.schema_kinds.specs.declared.kind.Item.TheVariants as of
use Rattle.record_layout.specs.Shapes.{form_of, single}
use Rattle.prop_setting.proofs.TakeLaws.{slot-of-form}
use Rattle.prop_setting.proofs.set.set_kind.Goals as goal

pub returns-in-Text-clause-fits : goal.returns-in-Text-clause-fits
returns-in-Text-clause-fits c = λ slot named given.
    c.set_value.ensures.fits c.args.spot.now.schema.now of.Text (slot-of-form c.args.spot.now.schema.now c.args.table.now c.args.spot.now.oref.0 c.args.spot.now.at c.args.kind.now (single of.Text) (ap form_of c.in-Text.is) slot) tt named given c.requires.fits

pub returns-in-Whole-clause-fits : goal.returns-in-Whole-clause-fits
returns-in-Whole-clause-fits c = λ slot named given.
    c.set_value-in-Whole.ensures.fits c.args.spot.now.schema.now of.Whole (slot-of-form c.args.spot.now.schema.now c.args.table.now c.args.spot.now.oref.0 c.args.spot.now.at c.args.kind.now (single of.Whole) (ap form_of c.in-Whole.is) slot) tt named given c.requires.fits

pub returns-in-Truth-clause-fits : goal.returns-in-Truth-clause-fits
returns-in-Truth-clause-fits c = λ slot named given.
    c.set_value-in-Truth.ensures.fits c.args.spot.now.schema.now of.Truth (slot-of-form c.args.spot.now.schema.now c.args.table.now c.args.spot.now.oref.0 c.args.spot.now.at c.args.kind.now (single of.Truth) (ap form_of c.in-Truth.is) slot) tt named given c.requires.fits

pub returns-in-Ref-clause-fits : goal.returns-in-Ref-clause-fits
returns-in-Ref-clause-fits c = λ slot named given.
    c.set_reference.ensures.fits (slot-of-form c.args.spot.now.schema.now c.args.table.now c.args.spot.now.oref.0 c.args.spot.now.at c.args.kind.now (single (of.Ref _)) (ap form_of c.in-Ref.is) slot) c.requires.fits
