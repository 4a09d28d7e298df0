use Rattle.std.proofs.Common.{refl, OnOk, Result, Ok, Err}
use Rattle.load_plan.specs.Loads.{load_of, to_come_within}
use Rattle.load_plan.proofs.LoadLaws.{read_taken}
use Rattle.load_plan.proofs.taking.taken.Goals as goal

on_ok : {A E : Type 0} {P Q : Type 0} (r : Result A E) → (P → Q) → OnOk r P → OnOk r Q
on_ok (Ok a) f h = f h
on_ok (Err e) f h = h

pub returns-in-Reading-clause-ok : goal.returns-in-Reading-clause-ok
returns-in-Reading-clause-ok c =
    rw c.in-Reading.is
    (on_ok c.take.result
    (read_taken c.read_call.result c.args.schema.now (load_of c.args.call.now) c.read_call.ensures.schema c.read_call.ensures.key c.read_call.ensures.wanted
    c.in-Reading.reading (record { read = c.take.new.self; lock = c.in-Reading.reading.lock }) c.args.reply refl)
    c.take.ensures.ok)

pub returns-in-Unlocking-clause-ok : goal.returns-in-Unlocking-clause-ok
unfolding to_come_within
returns-in-Unlocking-clause-ok c most rs le = rw c.in-Unlocking.is (rw c.unlocked.ensures (rw c.in-Unlocking.is refl))
