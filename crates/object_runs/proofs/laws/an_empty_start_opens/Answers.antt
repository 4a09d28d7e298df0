use Rattle.object_runs.proofs.StartLaws.{empty_opens}
use Rattle.object_runs.proofs.laws.an_empty_start_opens.Goals as goal

pub returns : goal.returns
returns c = λ classes. empty_opens classes
