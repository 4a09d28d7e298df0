use Rattle.kept_runs.proofs.Running.{kept_runs_are_steady}
use Rattle.kept_runs.proofs.laws.kept_runs_are_steady.Goals as goal

pub returns : goal.returns
returns c = kept_runs_are_steady
