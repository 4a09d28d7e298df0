use Rattle.sound_runs.proofs.Laws.{entries_keep_sound, entries_keep_backed}
use Rattle.sound_runs.proofs.entries.entries_keep_worlds_sound.Goals as goal

pub returns-clause-sound : goal.returns-clause-sound
returns-clause-sound c = entries_keep_sound

pub returns-clause-backed : goal.returns-clause-backed
returns-clause-backed c = entries_keep_backed
