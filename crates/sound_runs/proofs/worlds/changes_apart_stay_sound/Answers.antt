use Rattle.sound_runs.proofs.Laws.{apart_stays_sound}
use Rattle.sound_runs.proofs.worlds.changes_apart_stay_sound.Goals as goal

pub returns : goal.returns
returns c = apart_stays_sound
