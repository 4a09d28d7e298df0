use Rattle.steady_runs.proofs.Keeping.{safe_runs_are_steady}
use Rattle.steady_runs.proofs.laws.safe_runs_are_steady.Goals as goal

pub returns : goal.returns
returns c = safe_runs_are_steady
