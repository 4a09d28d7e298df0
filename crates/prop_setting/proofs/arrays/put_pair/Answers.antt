use Rattle.std.proofs.Common.{◌-◌, IsSome, true, ap, subst, sym, ◌∙◌}
use Rattle.std.specs.FinMap.{put}
use Rattle.obj_kinds.specs.SubOrder.{sub_cmp}
use Rattle.oref_table.specs.Memory.{Memory, object_of, outside_of}
use Rattle.oref_table.specs.Filling.{IsHeldFor, passed, slot_from}
use Rattle.oref_table.specs.Refs.{times}
use Rattle.oref_table.specs.Sound.{IsSound}
use Rattle.oref_table.specs.declared.slot.Slot.TheVariants.{Map}
use Rattle.obj_shape.specs.Fitting.{TableFits}
use Rattle.prop_setting.specs.Arrays.{IsArrayAt}
use Rattle.prop_setting.proofs.ArrayLaws.{array-live, array-marked, mark-undone, pair-may, pair-put}
use Rattle.prop_setting.proofs.SetLaws.{fits-set, held-marked, outside-marked}
use Rattle.prop_setting.proofs.arrays.put_pair.Goals as goal

pub set_modified-requires : goal.set_modified-requires
set_modified-requires c = array-live c.args.table.now c.args.oref.0 c.args.at c.requires.array.0 c.requires.array.1

pub fill-requires-clause-live : goal.fill-requires-clause-live
fill-requires-clause-live c = array-live c.set_modified.new.self c.args.oref.0 c.args.at c.requires.array.0 (subst (λ (x : Memory). IsArrayAt x c.args.oref.0 c.args.at c.requires.array.0) (sym c.set_modified.ensures) (array-marked c.args.table.now c.args.oref.0 c.args.at true c.requires.array.0 c.requires.array.1))

pub fill-requires-clause-place : goal.fill-requires-clause-place
fill-requires-clause-place c = pair-may c.set_modified.new.self c.args.oref.0 c.args.at c.args.key c.args.with c.requires.array.0 c.requires.filling (subst (λ (x : Memory). IsArrayAt x c.args.oref.0 c.args.at c.requires.array.0) (sym c.set_modified.ensures) (array-marked c.args.table.now c.args.oref.0 c.args.at true c.requires.array.0 c.requires.array.1)) c.requires.array.2

pub fill-requires-clause-held : goal.fill-requires-clause-held
fill-requires-clause-held c = subst (λ (x : Memory). IsHeldFor x c.args.with) (sym c.set_modified.ensures) (held-marked c.args.table.now c.args.oref.0 true c.args.with c.requires.held)

pub returns-in-Ok-clause-memory : goal.returns-in-Ok-clause-memory
returns-in-Ok-clause-memory c = λ pairs array. pair-put c.args.table.now c.set_modified.new.self c.fill.new.self c.args.oref.0 c.args.at c.args.key c.args.with pairs c.set_modified.ensures c.in-Ok.ensures.ok c.requires.filling array

pub returns-in-Ok-clause-holds : goal.returns-in-Ok-clause-holds
returns-in-Ok-clause-holds c = λ k.
    let marked = ap (λ (x : Memory). outside_of x k) c.set_modified.ensures ∙ outside-marked c.args.table.now c.args.oref.0 true k in
    c.in-Ok.ensures.holds k ∙ ap (λ j. j - times k (passed c.args.with)) marked

pub returns-in-Ok-clause-fits : goal.returns-in-Ok-clause-fits
returns-in-Ok-clause-fits c = λ classes pairs array takes fits.
    let is = pair-put c.args.table.now c.set_modified.new.self c.fill.new.self c.args.oref.0 c.args.at c.args.key c.args.with pairs c.set_modified.ensures c.in-Ok.ensures.ok c.requires.filling array in
    subst (λ (x : Memory). TableFits classes x) (sym is)
    (fits-set classes c.args.table.now c.args.oref.0 c.args.at (Map (put sub_cmp c.args.key (slot_from c.args.with) pairs)) (passed c.args.with) c.soundness.ensures (subst (λ (x : Memory). IsSound x) is c.soundness-in-Ok.ensures) takes fits)

pub set_modified-requires-in-Err : goal.set_modified-requires-in-Err
set_modified-requires-in-Err c =
    subst (λ (x : Memory). IsSome (object_of c.args.oref.0 x.objects)) (sym c.in-Err.ensures.err) (array-live c.set_modified.new.self c.args.oref.0 c.args.at c.requires.array.0 (subst (λ (x : Memory). IsArrayAt x c.args.oref.0 c.args.at c.requires.array.0) (sym c.set_modified.ensures) (array-marked c.args.table.now c.args.oref.0 c.args.at true c.requires.array.0 c.requires.array.1)))

pub returns-clause-err : goal.returns-clause-err
returns-clause-err c =
    let array = c.requires.array.1 in
    mark-undone c.args.table.now c.set_modified.new.self c.fill.new.self c.set_modified-in-Err.new.self c.args.oref.0 c.is_marked-marked.result array.0 array.1 (c.is_marked-marked.ensures array.0 array.1) c.set_modified.ensures c.in-Err.ensures.err c.set_modified-in-Err.ensures
