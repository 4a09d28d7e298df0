use Rattle.steady_runs.proofs.Keeping.{starts_are_steady}
use Rattle.steady_runs.proofs.laws.starts_are_steady.Goals as goal

pub returns : goal.returns
returns c = starts_are_steady
