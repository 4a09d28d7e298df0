use Rattle.sound_runs.proofs.OwnFound.{own_keeps_view, own_holds_stay, own_safe_stays}
use Rattle.sound_runs.proofs.stays.what_is_found_out_stays_within.Goals as goal

pub returns-clause-view : goal.returns-clause-view
returns-clause-view c = own_keeps_view

pub returns-clause-holds : goal.returns-clause-holds
returns-clause-holds c = own_holds_stay

pub returns-clause-safe : goal.returns-clause-safe
returns-clause-safe c = own_safe_stays
