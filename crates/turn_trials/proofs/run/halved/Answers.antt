use Rattle.std.proofs.Common.{◌≢◌, ◌+◌, ◌-◌, ℕ, [], refl, sym, subst, ◌∙◌, arith, vec_len}
use Rattle.std.proofs.lemmas.List.Elements.{All-take, All-drop}
use Rattle.turn_queue.specs.Parts.{from}
use Rattle.turn_trials.specs.Runs.{AreAskable, AreAllAskable}
use Rattle.turn_trials.specs.declared.plan.Plan.{Plan}
use Rattle.turn_trials.proofs.Pool.{from_some, halves_low, halves_high}
use Rattle.turn_trials.proofs.run.halved.Goals as goal

pub split-requires-clause-high : goal.split-requires-clause-high
split-requires-clause-high c =
    subst (λ ps. from (c.args.first + c.args.count) ps ≢ []) (sym c.requires.fresh)
    (from_some (c.args.first + c.args.count) c.args.first c.args.count (vec_len c.args.plans - c.args.count) (vec_len c.args.plans) refl (omega (arith, c.requires.some.1)) (omega (arith, c.requires.some.1)))

pub returns-in-Ok-clause-low : goal.returns-in-Ok-clause-low
returns-in-Ok-clause-low c = c.in-Ok.ensures.low ∙ halves_low c.args.seat _ (c.args.first + c.args.count) c.args.first c.args.count (vec_len c.args.plans) c.requires.fresh refl (omega (arith, c.requires.some.1)) refl

pub returns-in-Ok-clause-high : goal.returns-in-Ok-clause-high
returns-in-Ok-clause-high c = c.in-Ok.ensures.high ∙ halves_high c.args.seat _ (c.args.first + c.args.count) c.args.first c.args.count (vec_len c.in_ok-back.back) (vec_len c.args.plans) c.requires.fresh refl (omega (arith, c.in_ok-back.ensures.tail_len)) refl

pub returns-in-Ok-clause-front : goal.returns-in-Ok-clause-front
returns-in-Ok-clause-front c = subst AreAllAskable (sym c.in_ok-back.ensures.items) (All-take (λ (p : Plan). AreAskable p.ops.items) c.args.count c.args.plans.items c.requires.askable)

pub returns-in-Ok-clause-back : goal.returns-in-Ok-clause-back
returns-in-Ok-clause-back c = subst AreAllAskable (sym c.in_ok-back.ensures.tail) (All-drop (λ (p : Plan). AreAskable p.ops.items) c.args.count c.args.plans.items c.requires.askable)
