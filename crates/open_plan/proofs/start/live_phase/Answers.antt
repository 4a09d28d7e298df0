use Rattle.std.proofs.Common.{refl, sym, ap, subst, ◌∙◌}
use Rattle.object_calls.specs.Extents.{is_at_or_below}
use Rattle.load_plan.specs.Loads.{load_of}
use Rattle.load_plan.specs.Raises.{IsBegun}
use Rattle.open_plan.proofs.OpenLaws.{begun_other, begun_raising}
use Rattle.open_plan.proofs.start.live_phase.Goals as goal

pub returns-then-not-is_at_or_below-clause-begun : goal.returns-then-not-is_at_or_below-clause-begun
returns-then-not-is_at_or_below-clause-begun c = λ m s most rs class level.
    begun_other m c.args.schema.now (load_of c.args.call) c.args.call.tries most c.args.oref.0 s c.in_ok-class.class rs (class ∙ sym c.in_ok-class.ensures)
    (ap (λ k. is_at_or_below c.args.schema.now k c.args.call.class) c.in_ok-class.ensures ∙ sym c.is_at_or_below.ensures ∙ c.if-not-is_at_or_below.true)

pub returns-clause-begun : goal.returns-clause-begun
returns-clause-begun c = λ m s most rs class level.
    begun_raising m c.args.schema.now (load_of c.args.call) c.args.call.tries most c.args.oref.0 s rs (record { plan = c.new-plan.result; oref = c.args.oref }) refl
    (c.new-plan.ensures.call ∙ ap (λ u. record { key = c.args.call.key; from = u; to = c.args.call.level; tries = c.args.call.tries }) (sym level))
    (subst (λ k. IsBegun k c.new-plan.result.phase) (sym c.new-plan.ensures.call) c.new-plan.ensures.begun)
    (ap (λ k. is_at_or_below c.args.schema.now k c.args.call.class) class ∙ sym c.is_at_or_below.ensures ∙ c.if-not-is_at_or_below.false)
