use Rattle.sound_runs.proofs.Swapped.{swaps_are_safe}
use Rattle.sound_runs.proofs.samples.swaps_are_safe.Goals as goal

pub returns : goal.returns
returns c = swaps_are_safe
