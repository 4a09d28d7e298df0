use Rattle.std.proofs.Common.{IfOk, Result, Ok, Err, Option, None, Some, IsSome, ap, sym, refl, ◌∙◌}
use Rattle.std.specs.Option.{IsSomeAnd, option_copied}
use Rattle.oref_table.specs.Memory.{Object, object_of}
use Rattle.oref_table.specs.Sound.{HasKey}
use Rattle.load_plan.specs.Loads.{load_of}
use Rattle.open_plan.proofs.OpenLaws.{begun_loading, begun_at}
use Rattle.open_plan.proofs.start.first_phase.Goals as goal

if_ok : {A E : Type 0} {P Q : A → Type 0} (r : Result A E) → ((a : A) → P a → Q a) → IfOk r P → IfOk r Q
if_ok (Ok a) f h = f a h
if_ok (Err e) f h = h

some_of : (P : Object → Type 0) (x : Option Object) → IsSomeAnd x P → IsSome x
some_of P None h = absurd h
some_of P (Some o) h = refl

pub returns-in_default-clause-begun : goal.returns-in_default-clause-begun
returns-in_default-clause-begun c =
    begun_loading c.args.table.now c.args.schema.now (load_of c.args.call) c.args.call.tries c.in_ok-plan.plan c.in_ok-plan.ensures.schema (ap load_of c.in_ok-plan.ensures.call) c.in_ok-plan.ensures.begun
    c.in_default.ensures.none

pub returns-clause-begun : goal.returns-clause-begun
returns-clause-begun c =
    if_ok c.live_phase.result
    (λ p h.
    begun_at c.args.table.now c.args.schema.now (load_of c.args.call) c.args.call.tries c.in-Some.oref.0 (object_of c.in-Some.oref.0 c.args.table.now.objects) c.soundness.ensures refl
    c.in-Some.ensures.found c.unwrap-obj.result.now (ap option_copied (sym c.unwrap-obj.ensures) ∙ c.get.ensures) p h)
    c.live_phase.ensures.begun

pub returns-clause-place : goal.returns-clause-place
returns-clause-place c =
    if_ok c.live_phase.result (λ p h. h c.args.table.now (some_of (HasKey c.args.call.key.extent c.args.call.key.id) (object_of c.in-Some.oref.0 c.args.table.now.objects) c.in-Some.ensures.found)) c.live_phase.ensures.place
