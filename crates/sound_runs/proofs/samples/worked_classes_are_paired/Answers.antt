use Rattle.sound_runs.proofs.Paired.{bank_is_paired}
use Rattle.sound_runs.proofs.samples.worked_classes_are_paired.Goals as goal

pub returns : goal.returns
returns c = bank_is_paired
