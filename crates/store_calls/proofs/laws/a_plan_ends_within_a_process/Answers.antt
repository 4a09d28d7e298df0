use Rattle.store_calls.proofs.ProcessRules.{goes_on_within}
use Rattle.store_calls.proofs.laws.a_plan_ends_within_a_process.Goals as goal

pub returns : goal.returns
returns c s = goes_on_within
