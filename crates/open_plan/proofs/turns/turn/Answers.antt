use Rattle.std.proofs.Common.{None, Some, Result, Ok, Err, OnErr, refl, sym, subst}
use Rattle.open_plan.specs.declared.phase.Phase.TheVariants as phase
use Rattle.open_plan.specs.Opens.{TurnsOn, Stays, load_ended, raise_ended}
use Rattle.open_plan.proofs.OpenLaws.{load_place, load_stays, load_turns_on, load_turns_off, raise_turns_on, raise_turns_off}
use Rattle.open_plan.proofs.turns.turn.Goals as goal

on_err : {A E : Type 0} {P : Type 0} (r : Result A E) → P → OnErr r P
on_err (Ok a) h = tt
on_err (Err e) h = h

pub returns-in_err-op-in-Loading-clause-err : goal.returns-in_err-op-in-Loading-clause-err
returns-in_err-op-in-Loading-clause-err c =
    on_err c.from_residual.result
    (subst (λ was. Stays was (phase.Loading c.next.new.self)) (sym c.in-Loading.is) (
      c.in_err-op-in-Loading.ensures.err.0,
      load_place c.in-Loading.plan c.next.new.self c.next.ensures.schema c.next.ensures.call,
      load_stays c.in-Loading.plan c.next.new.self c.next.ensures.schema c.next.ensures.call c.in_err-op-in-Loading.ensures.err.1,
    ))

pub returns-in-Ask-clause-on : goal.returns-in-Ask-clause-on
returns-in-Ask-clause-on c =
    subst (λ was. TurnsOn (Some c.in-Ask.op) was (phase.Loading c.next.new.self)) (sym c.in-Loading.is)
    (load_turns_on c.in-Loading.plan c.next.new.self c.next.ensures.schema c.next.ensures.call c.in_ok-op-in-Loading.field-0 c.in-Ask.op c.in-Ask.is c.in_ok-op-in-Loading.ensures.says c.in_ok-op-in-Loading.ensures.goes)

pub returns-in-Load-clause-on : goal.returns-in-Load-clause-on
returns-in-Load-clause-on c =
    subst (λ now. TurnsOn None c.args.phase.now now) (sym c.load_ends.ensures)
    (subst (λ was. TurnsOn None was (load_ended c.in-Load.loaded (phase.Loading c.next.new.self))) (sym c.in-Loading.is)
    (load_turns_off c.in-Loading.plan c.next.new.self c.next.ensures.schema c.next.ensures.call c.in_ok-op-in-Loading.field-0 c.in-Load.loaded c.in-Load.is c.in_ok-op-in-Loading.ensures.says))

pub returns-in-Ask-2-clause-on : goal.returns-in-Ask-2-clause-on
returns-in-Ask-2-clause-on c =
    subst (λ was. TurnsOn (Some c.in-Ask-2.op) was (phase.Raising (record { plan = c.next-in-Raising.new.self; oref = c.in-Raising.raising.oref }))) (sym c.in-Raising.is)
    (raise_turns_on c.in-Raising.raising (record { plan = c.next-in-Raising.new.self; oref = c.in-Raising.raising.oref }) refl c.next-in-Raising.ensures.call c.in_ok-op-in-Raising.field-0 c.in-Ask-2.op
    c.in-Ask-2.is c.in_ok-op-in-Raising.ensures.says c.in_ok-op-in-Raising.ensures.stays)

pub returns-in-Raise-clause-on : goal.returns-in-Raise-clause-on
returns-in-Raise-clause-on c =
    subst (λ now. TurnsOn None c.args.phase.now now) (sym c.raise_ends.ensures)
    (subst (λ was. TurnsOn None was (raise_ended c.in-Raise.outcome (phase.Raising (record { plan = c.next-in-Raising.new.self; oref = c.in-Raising.raising.oref })))) (sym c.in-Raising.is)
    (raise_turns_off c.in-Raising.raising (record { plan = c.next-in-Raising.new.self; oref = c.in-Raising.raising.oref }) refl c.next-in-Raising.ensures.call c.in_ok-op-in-Raising.field-0 c.in-Raise.outcome
    c.in-Raise.is c.in_ok-op-in-Raising.ensures.says))
