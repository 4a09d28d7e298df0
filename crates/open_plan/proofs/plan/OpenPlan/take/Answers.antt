use Rattle.std.proofs.Common.{Result, Ok, Err, OnOk, OnErr, refl, sym, subst}
use Rattle.open_plan.specs.declared.phase.Phase.TheVariants as phase
use Rattle.open_plan.specs.Opens.{IsTaken, Stays}
use Rattle.open_plan.proofs.OpenLaws.{load_taken, load_keeps, raise_taken}
use Rattle.open_plan.proofs.plan.OpenPlan.take.Goals as goal

on_ok : {A E : Type 0} {P Q : Type 0} (r : Result A E) → (P → Q) → OnOk r P → OnOk r Q
on_ok (Ok a) f h = f h
on_ok (Err e) f h = h

on_err : {A E : Type 0} {P Q : Type 0} (r : Result A E) → (P → Q) → OnErr r P → OnErr r Q
on_err (Ok a) f h = h
on_err (Err e) f h = f h

pub returns-in-Loading-clause-ok : goal.returns-in-Loading-clause-ok
returns-in-Loading-clause-ok c =
    on_ok c.take.result
    (λ h m.
    subst (λ was. IsTaken m c.args.reply was (phase.Loading c.take.new.self)) (sym c.in-Loading.is)
    (load_taken c.in-Loading.plan c.take.new.self c.take.ensures.schema c.take.ensures.call c.args.reply h m))
    c.take.ensures.ok

pub returns-in-Loading-clause-err : goal.returns-in-Loading-clause-err
returns-in-Loading-clause-err c =
    on_err c.take.result
    (λ h.
    subst (λ was. Stays was (phase.Loading c.take.new.self)) (sym c.in-Loading.is)
    (load_keeps c.in-Loading.plan c.take.new.self c.take.ensures.schema c.take.ensures.call c.take.ensures.told h))
    c.take.ensures.err

pub returns-in-Raising-clause-ok : goal.returns-in-Raising-clause-ok
returns-in-Raising-clause-ok c = λ m.
    subst (λ was. IsTaken m c.args.reply was (phase.Raising (record { plan = c.take-in-Raising.new.self; oref = c.in-Raising.raising.oref }))) (sym c.in-Raising.is)
    (raise_taken c.in-Raising.raising (record { plan = c.take-in-Raising.new.self; oref = c.in-Raising.raising.oref }) refl c.take-in-Raising.ensures.call c.args.reply c.take-in-Raising.ensures.taken m)
