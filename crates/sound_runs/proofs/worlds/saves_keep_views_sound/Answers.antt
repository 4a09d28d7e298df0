use Rattle.sound_runs.proofs.Laws.{saves_keep_sound}
use Rattle.sound_runs.proofs.worlds.saves_keep_views_sound.Goals as goal

pub returns : goal.returns
returns c = saves_keep_sound
