use Rattle.std.proofs.Common.{true, insert, ap, subst, sym, ◌∙◌}
use Rattle.oref_table.specs.Memory.{Memory, outside_of}
use Rattle.oref_table.specs.Filling.{passed, slot_from}
use Rattle.oref_table.specs.Sound.{IsSound}
use Rattle.oref_table.specs.declared.slot.Slot.TheVariants.{Items}
use Rattle.obj_shape.specs.Fitting.{TableFits}
use Rattle.prop_setting.proofs.ListLaws.{has-items, inserted-live, item-added, list-live}
use Rattle.prop_setting.proofs.SetLaws.{fits-set, outside-marked}
use Rattle.prop_setting.proofs.lists.add_item.Goals as goal

pub insert_item-requires-clause-live : goal.insert_item-requires-clause-live
insert_item-requires-clause-live c = list-live c.args.table.now c.args.oref.0 c.args.at c.requires.list.0 c.requires.list.1

pub insert_item-requires-clause-there : goal.insert_item-requires-clause-there
insert_item-requires-clause-there c = has-items c.args.table.now c.args.oref.0 c.args.at c.args.before c.requires.list

pub set_modified-requires : goal.set_modified-requires
set_modified-requires c = inserted-live c.args.table.now c.insert_item.new.self c.args.oref.0 c.args.at c.args.before c.args.with c.in-Ok.ensures.ok

pub returns-in-Ok-clause-memory : goal.returns-in-Ok-clause-memory
returns-in-Ok-clause-memory c = λ items list.
    item-added c.args.table.now c.insert_item.new.self c.set_modified.new.self c.args.oref.0 c.args.at c.args.before c.args.with items c.in-Ok.ensures.ok c.set_modified.ensures c.standing-in-Ok.ensures list

pub returns-in-Ok-clause-holds : goal.returns-in-Ok-clause-holds
returns-in-Ok-clause-holds c = λ k. ap (λ (x : Memory). outside_of x k) c.set_modified.ensures ∙ outside-marked c.insert_item.new.self c.args.oref.0 true k ∙ c.in-Ok.ensures.holds k

pub returns-in-Ok-clause-fits : goal.returns-in-Ok-clause-fits
returns-in-Ok-clause-fits c = λ classes items list takes fits.
    let is = item-added c.args.table.now c.insert_item.new.self c.set_modified.new.self c.args.oref.0 c.args.at c.args.before c.args.with items c.in-Ok.ensures.ok c.set_modified.ensures c.standing-in-Ok.ensures list in
    subst (λ (x : Memory). TableFits classes x) (sym is)
    (fits-set classes c.args.table.now c.args.oref.0 c.args.at (Items (insert items c.args.before (slot_from c.args.with))) (passed c.args.with) c.standing.ensures.sound (subst (λ (x : Memory). IsSound x) is c.standing-in-Ok.ensures.sound) takes fits)
