use Rattle.std.proofs.Common.{IfOk, OnErr, Result, Ok, Err, ap, sym, subst}
use Rattle.open_plan.specs.declared.plan.OpenPlan.{OpenPlan}
use Rattle.open_plan.specs.Opens.{TurnsOn, Stays}
use Rattle.open_plan.proofs.OpenLaws.{next_behind, goes_behind, stays_behind}
use Rattle.open_plan.proofs.plan.OpenPlan.next.Goals as goal

if_ok : {A E : Type 0} {P Q : A → Type 0} (r : Result A E) → ((a : A) → P a → Q a) → IfOk r P → IfOk r Q
if_ok (Ok a) f h = f a h
if_ok (Err e) f h = h

pub returns-in-None-clause-says : goal.returns-in-None-clause-says
returns-in-None-clause-says c =
    if_ok c.end.result
    (λ s h. next_behind c.args.self.now.phase c.turn.new.phase (subst (λ op. TurnsOn op c.args.self.now.phase c.turn.new.phase) c.in-None.is c.in_ok-op.ensures.on) c.args.table.now c.end.new.table s h)
    c.end.ensures.says

pub returns-in-None-clause-goes : goal.returns-in-None-clause-goes
returns-in-None-clause-goes c =
    if_ok c.end.result
    (λ s h. goes_behind c.args.self.now.phase c.turn.new.phase (subst (λ op. TurnsOn op c.args.self.now.phase c.turn.new.phase) c.in-None.is c.in_ok-op.ensures.on) c.args.table.now c.end.new.table s c.end.new.self.phase h)
    c.end.ensures.goes

on_err : {A E : Type 0} {P Q : Type 0} (r : Result A E) → (P → Q) → OnErr r P → OnErr r Q
on_err (Ok a) f h = h
on_err (Err e) f h = f h

pub end-requires-clause-place : goal.end-requires-clause-place
end-requires-clause-place c =
    (subst (λ op. TurnsOn op c.args.self.now.phase c.turn.new.phase) c.in-None.is c.in_ok-op.ensures.on).1 c.args.table.now c.requires.place

pub returns-in-None-clause-err : goal.returns-in-None-clause-err
returns-in-None-clause-err c =
    on_err c.end.result
    (λ h.
    subst (λ now. Stays c.args.self.now.phase now) (ap (λ (p : OpenPlan). p.phase) (sym h))
    (stays_behind c.args.self.now.phase c.turn.new.phase (subst (λ op. TurnsOn op c.args.self.now.phase c.turn.new.phase) c.in-None.is c.in_ok-op.ensures.on)))
    c.end.ensures.err
