use Rattle.std.proofs.Common.{◌≡◌, ◌+◌, ◌-◌, ◌<◌, [], ◌∙◌, sym, subst, length, set, arith}
use Rattle.obj_kinds.specs.declared.op.Op.TheVariants.{End}
use Rattle.store_core.specs.Machine.{after}
use Rattle.store_core.specs.Tied.{IsTied}
use Rattle.store_core.proofs.TurnLaws.{tied_after, own_log, turn_end}
use Rattle.store_core.proofs.turns.end_turn.Goals as goal

pub returns-clause-after : goal.returns-clause-after
returns-clause-after c = λ s is.
    let logs = c.args.logs.now.items in
    let i = c.args.pid.0 - 1 in
    let ls = c.in-Some.log in
    let g = c.args.tree.now.globals in
    let lt : i < length logs = omega (arith, c.requires.pid.0, c.requires.pid.1) in
    let e : c.args.pid.0 ≡ i + 1 = omega (arith, c.requires.pid.0) in
    let here = own_log logs i c.index_mut.result.now ls lt c.index_mut.ensures.value (sym c.take.ensures.value ∙ c.in-Some.is) in
    subst (λ o. IsTied (after s c.args.pid End) c.undo_all.new.tree.globals c.drop_all.new.self (set logs i o)) (sym c.take.ensures.after)
    (tied_after s c.args.pid End g c.undo_all.new.tree.globals c.args.locks.now c.drop_all.new.self logs i ls [] is e lt here
    (turn_end c.args.pid g c.undo_all.new.tree.globals c.args.locks.now c.drop_all.new.self ls c.undo_all.ensures.globals c.drop_all.ensures))
