use Rattle.load_plan.proofs.OwnLaws.{load_own, load_asks, raise_own}
use Rattle.load_plan.proofs.law.loads_ask_for_their_own_key_alone.Goals as goal

pub returns-clause-calls : goal.returns-clause-calls
returns-clause-calls c = load_own

pub returns-clause-asked : goal.returns-clause-asked
returns-clause-asked c = load_asks

pub returns-clause-raises : goal.returns-clause-raises
returns-clause-raises c = raise_own
