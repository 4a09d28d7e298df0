use Rattle.std.proofs.Common.{[], true, subst, sym}
use Rattle.oref_table.specs.Memory.{Memory, without_first}
use Rattle.oref_table.specs.Filling.{IsHeldFor}
use Rattle.oref_table.specs.Places.{has_key}
use Rattle.oref_table.specs.Sound.{IsSound}
use Rattle.oref_table.specs.declared.slot.Slot.TheVariants.{Map}
use Rattle.obj_shape.specs.Fitting.{TableFits}
use Rattle.prop_setting.specs.Arrays.{IsArrayAt}
use Rattle.prop_setting.proofs.ArrayLaws.{array-live, array-marked, pair-may-go, pair-taken, pair-there}
use Rattle.prop_setting.proofs.SetLaws.{fits-set}
use Rattle.prop_setting.proofs.arrays.take_pair.Goals as goal

pub set_modified-requires : goal.set_modified-requires
set_modified-requires c = array-live c.args.table.now c.args.oref.0 c.args.at c.requires.0 c.requires.1

pub fill_pair-requires-clause-live : goal.fill_pair-requires-clause-live
fill_pair-requires-clause-live c = array-live c.set_modified.new.self c.args.oref.0 c.args.at c.requires.0 (subst (λ (x : Memory). IsArrayAt x c.args.oref.0 c.args.at c.requires.0) (sym c.set_modified.ensures) (array-marked c.args.table.now c.args.oref.0 c.args.at true c.requires.0 c.requires.1))

pub fill_pair-requires-clause-place : goal.fill_pair-requires-clause-place
fill_pair-requires-clause-place c = pair-may-go c.set_modified.new.self c.args.oref.0 c.args.at c.args.key c.requires.0 (subst (λ (x : Memory). IsArrayAt x c.args.oref.0 c.args.at c.requires.0) (sym c.set_modified.ensures) (array-marked c.args.table.now c.args.oref.0 c.args.at true c.requires.0 c.requires.1)) c.requires.2 c.requires.3

pub fill_pair-requires-clause-there : goal.fill_pair-requires-clause-there
fill_pair-requires-clause-there c = pair-there c.set_modified.new.self c.args.oref.0 c.args.at c.args.key c.requires.0 (subst (λ (x : Memory). IsArrayAt x c.args.oref.0 c.args.at c.requires.0) (sym c.set_modified.ensures) (array-marked c.args.table.now c.args.oref.0 c.args.at true c.requires.0 c.requires.1)) c.requires.3

pub fill_pair-requires-clause-held : goal.fill_pair-requires-clause-held
unfolding IsHeldFor
fill_pair-requires-clause-held c = tt

pub returns-clause-memory : goal.returns-clause-memory
returns-clause-memory c = λ pairs array. pair-taken c.args.table.now c.set_modified.new.self c.fill_pair.new.table c.args.oref.0 c.args.at c.args.key pairs c.set_modified.ensures c.fill_pair.ensures array

pub returns-clause-fits : goal.returns-clause-fits
returns-clause-fits c = λ classes pairs array takes fits.
    let is = pair-taken c.args.table.now c.set_modified.new.self c.fill_pair.new.table c.args.oref.0 c.args.at c.args.key pairs c.set_modified.ensures c.fill_pair.ensures array in
    subst (λ (x : Memory). TableFits classes x) (sym is)
    (fits-set classes c.args.table.now c.args.oref.0 c.args.at (Map (without_first (has_key c.args.key) pairs)) [] c.soundness.ensures (subst (λ (x : Memory). IsSound x) is c.soundness-2.ensures) takes fits)
