use Rattle.sound_runs.proofs.Ids.{next_is_an_id, no_next_is_bare}
use Rattle.sound_runs.proofs.reads.ids_stand_below_keys.Goals as goal

pub returns-clause-next : goal.returns-clause-next
returns-clause-next c = next_is_an_id

pub returns-clause-bare : goal.returns-clause-bare
returns-clause-bare c = no_next_is_bare
