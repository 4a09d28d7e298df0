use Rattle.std.proofs.Common.{◌+◌, ◌-◌, true, ap, subst, sym, ◌∙◌, arith, slice_set}
use Rattle.oref_table.specs.Memory.{Memory, outside_of}
use Rattle.oref_table.specs.Filling.{IsHeldFor, passed, slot_from}
use Rattle.oref_table.specs.Refs.{times}
use Rattle.oref_table.specs.Sound.{IsSound}
use Rattle.oref_table.specs.declared.slot.Slot.TheVariants.{Items}
use Rattle.obj_shape.specs.Fitting.{TableFits}
use Rattle.prop_setting.specs.Lists.{IsListAt}
use Rattle.prop_setting.proofs.ListLaws.{item-may, item-put, item-there, list-live, list-marked, long-list}
use Rattle.prop_setting.proofs.SetLaws.{fits-set, held-marked, outside-marked}
use Rattle.prop_setting.proofs.lists.put_item.Goals as goal

pub set_modified-requires : goal.set_modified-requires
set_modified-requires c = list-live c.args.table.now c.args.oref.0 c.args.at c.requires.list.0 c.requires.list.1

pub fill_item-requires-clause-live : goal.fill_item-requires-clause-live
fill_item-requires-clause-live c =
    let list = subst (λ (x : Memory). IsListAt x c.args.oref.0 c.args.at c.requires.list.0) (sym c.set_modified.ensures) (list-marked c.args.table.now c.args.oref.0 c.args.at true c.requires.list.0 c.requires.list.1) in
    list-live c.set_modified.new.self c.args.oref.0 c.args.at c.requires.list.0 list

pub fill_item-requires-clause-place : goal.fill_item-requires-clause-place
fill_item-requires-clause-place c =
    let list = subst (λ (x : Memory). IsListAt x c.args.oref.0 c.args.at c.requires.list.0) (sym c.set_modified.ensures) (list-marked c.args.table.now c.args.oref.0 c.args.at true c.requires.list.0 c.requires.list.1) in
    item-may c.set_modified.new.self c.args.oref.0 c.args.at c.args.place c.args.with c.requires.list.0 list (omega (arith, c.requires.list.2))

pub fill_item-requires-clause-there : goal.fill_item-requires-clause-there
fill_item-requires-clause-there c =
    let list = subst (λ (x : Memory). IsListAt x c.args.oref.0 c.args.at c.requires.list.0) (sym c.set_modified.ensures) (list-marked c.args.table.now c.args.oref.0 c.args.at true c.requires.list.0 c.requires.list.1) in
    item-there c.set_modified.new.self c.args.oref.0 c.args.at c.args.place c.requires.list.0 list (omega (arith, c.requires.list.2))

pub fill_item-requires-clause-held : goal.fill_item-requires-clause-held
fill_item-requires-clause-held c = subst (λ (x : Memory). IsHeldFor x c.args.with) (sym c.set_modified.ensures) (held-marked c.args.table.now c.args.oref.0 true c.args.with c.requires.held)

pub returns-clause-memory : goal.returns-clause-memory
returns-clause-memory c = λ items list.
    item-put c.args.table.now c.set_modified.new.self c.fill_item.new.table c.args.oref.0 c.args.at c.args.place c.args.with items c.set_modified.ensures c.fill_item.ensures.memory c.requires.filling list
    (omega (arith, long-list c.args.table.now c.args.oref.0 c.args.at (c.args.place + 1) items c.requires.list list))

pub returns-clause-holds : goal.returns-clause-holds
returns-clause-holds c = λ k.
    let marked = ap (λ (x : Memory). outside_of x k) c.set_modified.ensures ∙ outside-marked c.args.table.now c.args.oref.0 true k in
    c.fill_item.ensures.holds k ∙ ap (λ j. j - times k (passed c.args.with)) marked

pub returns-clause-fits : goal.returns-clause-fits
returns-clause-fits c = λ classes items list takes fits.
    let is = item-put c.args.table.now c.set_modified.new.self c.fill_item.new.table c.args.oref.0 c.args.at c.args.place c.args.with items c.set_modified.ensures c.fill_item.ensures.memory c.requires.filling list (omega (arith, long-list c.args.table.now c.args.oref.0 c.args.at (c.args.place + 1) items c.requires.list list)) in
    subst (λ (x : Memory). TableFits classes x) (sym is)
    (fits-set classes c.args.table.now c.args.oref.0 c.args.at (Items (slice_set items c.args.place (slot_from c.args.with))) (passed c.args.with) c.soundness.ensures (subst (λ (x : Memory). IsSound x) is c.soundness-2.ensures) takes fits)
