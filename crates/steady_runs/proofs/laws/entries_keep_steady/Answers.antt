use Rattle.steady_runs.proofs.Keeping.{entries_keep_steady}
use Rattle.steady_runs.proofs.laws.entries_keep_steady.Goals as goal

pub returns : goal.returns
returns c = entries_keep_steady
