use Rattle.std.proofs.Common.{[], sym, subst}
use Rattle.std.proofs.lemmas.List.Elements.{All-nil, All-cons, All-append}
use Rattle.turn_trials.specs.Runs.{IsAskable, AreAskable}
use Rattle.turn_trials.proofs.plan.plan_of.Goals as goal

pub loop-ask-init : goal.loop-ask-init
loop-ask-init c = subst AreAskable (sym c.new-ops.ensures.items) (All-nil IsAskable)

pub loop-ask-preserved : goal.loop-ask-preserved
loop-ask-preserved c =
    subst AreAskable (sym c.in_ok-push_back.ensures.items)
    (All-append IsAskable c.loop-ask.ops.items _ c.loop-ask.invariant (All-cons IsAskable c.in_ok-op.op [] c.in_ok-op.ensures (All-nil IsAskable)))
