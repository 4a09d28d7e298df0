use Rattle.std.proofs.Common.{◌≡◌, ◌+◌, ◌-◌, ◌<◌, ◌∙◌, sym, subst, length, set, Some, arith}
use Rattle.store_core.specs.Machine.{sight, after}
use Rattle.store_core.specs.Tied.{IsTied}
use Rattle.store_core.specs.Volume.{reply_volume}
use Rattle.store_core.proofs.Outcomes.{if_ok, on_ok}
use Rattle.store_core.proofs.TurnLaws.{pins_few, own_low, still_owed, tied_after, live_other, own_log, told_is, low_either}
use Rattle.store_core.proofs.turns.turn.Goals as goal

pub act-requires-clause-pins : goal.act-requires-clause-pins
act-requires-clause-pins c = pins_few c.args.tree.now.pins c.args.logs.now.items c.requires.owed

pub returns-clause-owed : goal.returns-clause-owed
returns-clause-owed c =
    let logs = c.args.logs.now.items in
    let i = c.args.pid.0 - 1 in
    let ls = c.in-Some.log in
    let lt : i < length logs = omega (arith, c.requires.pid.0, c.requires.pid.1) in
    let here = own_log logs i c.index_mut.result.now ls lt c.index_mut.ensures.value c.in-Some.is in
    let low = own_low c.args.tree.now.pins logs i ls c.requires.owed lt here in
    still_owed c.args.tree.now.pins c.act.new.tree.pins logs i ls (Some c.act.new.log) c.requires.owed lt here
    (low_either c.act.result (sight c.args.tree.now.globals c.args.locks.now ls) (sight c.act.new.tree.globals c.act.new.locks c.act.new.log) c.args.pid c.args.op.now c.act.ensures.turn c.act.ensures.err low)
    c.act.ensures.pins

pub returns-clause-reply : goal.returns-clause-reply
returns-clause-reply c = λ s is.
    let logs = c.args.logs.now.items in
    let i = c.args.pid.0 - 1 in
    let ls = c.in-Some.log in
    let lt : i < length logs = omega (arith, c.requires.pid.0, c.requires.pid.1) in
    let e : c.args.pid.0 ≡ i + 1 = omega (arith, c.requires.pid.0) in
    let here = own_log logs i c.index_mut.result.now ls lt c.index_mut.ensures.value c.in-Some.is in
    let told = told_is s c.args.pid c.args.op.now c.args.tree.now.globals c.args.locks.now logs i ls is e here in
    if_ok c.act.result c.act.ensures.reply (λ r h. h.0 ∙ sym told)

pub returns-clause-fits : goal.returns-clause-fits
returns-clause-fits c = if_ok c.act.result c.act.ensures.reply (λ r h. h.1)

pub returns-clause-after : goal.returns-clause-after
returns-clause-after c = λ s is.
    let logs = c.args.logs.now.items in
    let i = c.args.pid.0 - 1 in
    let ls = c.in-Some.log in
    let lt : i < length logs = omega (arith, c.requires.pid.0, c.requires.pid.1) in
    let e : c.args.pid.0 ≡ i + 1 = omega (arith, c.requires.pid.0) in
    let here = own_log logs i c.index_mut.result.now ls lt c.index_mut.ensures.value c.in-Some.is in
    on_ok c.act.result c.act.ensures.turn (λ t.
    subst (λ o. IsTied (after s c.args.pid c.args.op.now) c.act.new.tree.globals c.act.new.locks (set logs i o)) (live_other c.args.op.now c.act.new.log c.requires.no_end)
    (tied_after s c.args.pid c.args.op.now c.args.tree.now.globals c.act.new.tree.globals c.args.locks.now c.act.new.locks logs i ls c.act.new.log is e lt here t))

pub returns-clause-volume : goal.returns-clause-volume
returns-clause-volume c = λ s is refused.
    let logs = c.args.logs.now.items in
    let i = c.args.pid.0 - 1 in
    let ls = c.in-Some.log in
    let lt : i < length logs = omega (arith, c.requires.pid.0, c.requires.pid.1) in
    let e : c.args.pid.0 ≡ i + 1 = omega (arith, c.requires.pid.0) in
    let here = own_log logs i c.index_mut.result.now ls lt c.index_mut.ensures.value c.in-Some.is in
    let told = told_is s c.args.pid c.args.op.now c.args.tree.now.globals c.args.locks.now logs i ls is e here in
    subst (λ r. c.args.room < reply_volume r) (sym told) (c.act.ensures.volume refused)
