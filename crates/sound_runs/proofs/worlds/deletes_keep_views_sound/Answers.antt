use Rattle.sound_runs.proofs.Laws.{deletes_keep_sound}
use Rattle.sound_runs.proofs.worlds.deletes_keep_views_sound.Goals as goal

pub returns : goal.returns
returns c = deletes_keep_sound
