use Rattle.sound_runs.proofs.Laws.{start_is_backed}
use Rattle.sound_runs.proofs.entries.starts_are_backed.Goals as goal

pub returns : goal.returns
returns c = start_is_backed
