use Rattle.sound_runs.proofs.Searched.{stands_where_searched, itself_not, vacant_is_free}
use Rattle.sound_runs.proofs.FoundTaken.{found_is_taken}
use Rattle.sound_runs.proofs.causes.taken_keys_are_not_unique.Goals as goal

pub returns-clause-stands : goal.returns-clause-stands
returns-clause-stands c = stands_where_searched

pub returns-clause-itself : goal.returns-clause-itself
returns-clause-itself c = itself_not

pub returns-clause-vacant : goal.returns-clause-vacant
returns-clause-vacant c = vacant_is_free

pub returns-clause-found : goal.returns-clause-found
returns-clause-found c = found_is_taken
