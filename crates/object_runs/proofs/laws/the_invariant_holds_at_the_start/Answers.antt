use Rattle.object_runs.proofs.StartLaws.{start_invariant}
use Rattle.object_runs.proofs.laws.the_invariant_holds_at_the_start.Goals as goal

pub returns : goal.returns
returns c = λ classes pids g w opens. start_invariant classes pids g w opens
