use Rattle.std.proofs.Common.{subst, sym, ◌∙◌, ap, true, ◌-◌}
use Rattle.oref_table.specs.Memory.{Memory, outside_of}
use Rattle.oref_table.specs.Filling.{IsHeldFor, passed, slot_from}
use Rattle.oref_table.specs.Refs.{times}
use Rattle.oref_table.specs.Sound.{IsSound}
use Rattle.obj_shape.specs.Fitting.{TableFits}
use Rattle.obj_props.specs.Changes.{HasSlot}
use Rattle.obj_props.proofs.PartLaws.{may-fill, slot-live}
use Rattle.prop_setting.proofs.SetLaws.{fits-set, held-marked, outside-marked, put-memory, slot-marked}
use Rattle.prop_setting.proofs.changes.put.Goals as goal

pub set_modified-requires : goal.set_modified-requires
set_modified-requires c = slot-live c.args.table.now c.args.oref.0 c.args.at c.requires.slot

pub fill_slot-requires-clause-live : goal.fill_slot-requires-clause-live
fill_slot-requires-clause-live c =
    slot-live c.set_modified.new.self c.args.oref.0 c.args.at (subst (λ (x : Memory). HasSlot x c.args.oref.0 c.args.at) (sym c.set_modified.ensures) (slot-marked c.args.table.now c.args.oref.0 c.args.at true c.requires.slot))

pub fill_slot-requires-clause-place : goal.fill_slot-requires-clause-place
fill_slot-requires-clause-place c =
    may-fill c.set_modified.new.self c.args.oref.0 c.args.at c.args.with (subst (λ (x : Memory). HasSlot x c.args.oref.0 c.args.at) (sym c.set_modified.ensures) (slot-marked c.args.table.now c.args.oref.0 c.args.at true c.requires.slot))

pub fill_slot-requires-clause-held : goal.fill_slot-requires-clause-held
fill_slot-requires-clause-held c = subst (λ (x : Memory). IsHeldFor x c.args.with) (sym c.set_modified.ensures) (held-marked c.args.table.now c.args.oref.0 true c.args.with c.requires.held)

pub returns-clause-memory : goal.returns-clause-memory
returns-clause-memory c = put-memory c.args.table.now c.set_modified.new.self c.fill_slot.new.table c.args.oref.0 c.args.at c.args.with c.set_modified.ensures c.fill_slot.ensures.memory

pub returns-clause-holds : goal.returns-clause-holds
returns-clause-holds c = λ k.
    let marked = ap (λ (x : Memory). outside_of x k) c.set_modified.ensures ∙ outside-marked c.args.table.now c.args.oref.0 true k in
    c.fill_slot.ensures.holds k ∙ ap (λ j. j - times k (passed c.args.with)) marked

pub returns-clause-fits : goal.returns-clause-fits
returns-clause-fits c = λ classes takes fits.
    let is = put-memory c.args.table.now c.set_modified.new.self c.fill_slot.new.table c.args.oref.0 c.args.at c.args.with c.set_modified.ensures c.fill_slot.ensures.memory in
    subst (λ (x : Memory). TableFits classes x) (sym is)
    (fits-set classes c.args.table.now c.args.oref.0 c.args.at (slot_from c.args.with) (passed c.args.with) c.soundness.ensures (subst (λ (x : Memory). IsSound x) is c.soundness-2.ensures) takes fits)
