use Rattle.run_rules.proofs.Weave.{good_runs_keep_worlds}
use Rattle.run_rules.proofs.laws.good_runs_keep_worlds.Goals as goal

pub returns : goal.returns
returns c = good_runs_keep_worlds
