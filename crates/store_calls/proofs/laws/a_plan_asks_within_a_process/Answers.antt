use Rattle.store_calls.proofs.ProcessRules.{asks_within}
use Rattle.store_calls.proofs.laws.a_plan_asks_within_a_process.Goals as goal

pub returns : goal.returns
returns c s = asks_within
