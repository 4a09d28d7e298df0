use Rattle.std.proofs.Common.{[], true, subst, sym, arith}
use Rattle.std.specs.List.{remove}
use Rattle.oref_table.specs.Memory.{Memory}
use Rattle.oref_table.specs.Filling.{IsHeldFor}
use Rattle.oref_table.specs.Sound.{IsSound}
use Rattle.oref_table.specs.declared.slot.Slot.TheVariants.{Items}
use Rattle.oref_table.specs.declared.fill.Fill.TheVariants as fill
use Rattle.obj_shape.specs.Fitting.{TableFits}
use Rattle.prop_setting.specs.Lists.{IsListAt}
use Rattle.prop_setting.proofs.ListLaws.{item-may, item-taken, item-there, list-live, list-marked}
use Rattle.prop_setting.proofs.SetLaws.{fits-set}
use Rattle.prop_setting.proofs.lists.take_item.Goals as goal

pub set_modified-requires : goal.set_modified-requires
set_modified-requires c = list-live c.args.table.now c.args.oref.0 c.args.at c.requires.0 c.requires.1

pub fill_item-requires-clause-live : goal.fill_item-requires-clause-live
fill_item-requires-clause-live c =
    let list = subst (λ (x : Memory). IsListAt x c.args.oref.0 c.args.at c.requires.0) (sym c.set_modified.ensures) (list-marked c.args.table.now c.args.oref.0 c.args.at true c.requires.0 c.requires.1) in
    list-live c.set_modified.new.self c.args.oref.0 c.args.at c.requires.0 list

pub fill_item-requires-clause-place : goal.fill_item-requires-clause-place
fill_item-requires-clause-place c =
    let list = subst (λ (x : Memory). IsListAt x c.args.oref.0 c.args.at c.requires.0) (sym c.set_modified.ensures) (list-marked c.args.table.now c.args.oref.0 c.args.at true c.requires.0 c.requires.1) in
    item-may c.set_modified.new.self c.args.oref.0 c.args.at c.args.place fill.Nothing c.requires.0 list (omega (arith, c.requires.2))

pub fill_item-requires-clause-there : goal.fill_item-requires-clause-there
fill_item-requires-clause-there c =
    let list = subst (λ (x : Memory). IsListAt x c.args.oref.0 c.args.at c.requires.0) (sym c.set_modified.ensures) (list-marked c.args.table.now c.args.oref.0 c.args.at true c.requires.0 c.requires.1) in
    item-there c.set_modified.new.self c.args.oref.0 c.args.at c.args.place c.requires.0 list (omega (arith, c.requires.2))

pub fill_item-requires-clause-held : goal.fill_item-requires-clause-held
unfolding IsHeldFor
fill_item-requires-clause-held c = tt

pub returns-clause-memory : goal.returns-clause-memory
returns-clause-memory c = λ items list.
    item-taken c.args.table.now c.set_modified.new.self c.fill_item.new.table c.args.oref.0 c.args.at c.args.place items c.set_modified.ensures c.fill_item.ensures.memory list

pub returns-clause-fits : goal.returns-clause-fits
returns-clause-fits c = λ classes items list takes fits.
    let is = item-taken c.args.table.now c.set_modified.new.self c.fill_item.new.table c.args.oref.0 c.args.at c.args.place items c.set_modified.ensures c.fill_item.ensures.memory list in
    subst (λ (x : Memory). TableFits classes x) (sym is)
    (fits-set classes c.args.table.now c.args.oref.0 c.args.at (Items (remove items c.args.place)) [] c.soundness.ensures (subst (λ (x : Memory). IsSound x) is c.soundness-2.ensures) takes fits)
