use Rattle.turn_trials.specs.Runs.{AreAskable}
use Rattle.turn_trials.proofs.plan.plan_of.Given as goal

abbrev pub invariant-loop-ask : goal.invariant-loop-ask
invariant-loop-ask l = AreAskable l.ops.items
