use Rattle.std.proofs.Common.{◌≡◌, vec_len}
use Rattle.turn_trials.specs.Runs.{AreAllAskable}
use Rattle.turn_trials.proofs.plan.plans_of.Given as goal

abbrev pub invariant-loop-asks : goal.invariant-loop-asks
invariant-loop-asks l = AreAllAskable l.plans.items × (vec_len l.plans ≡ l.asks-index)
