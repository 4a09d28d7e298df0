use Rattle.sound_runs.proofs.Found.{holds_stay, held_views_stay, vacant_stays, unnamed_stays, safe_stays}
use Rattle.sound_runs.proofs.stays.what_is_found_out_stays.Goals as goal

pub returns-clause-holds : goal.returns-clause-holds
returns-clause-holds c = holds_stay

pub returns-clause-views : goal.returns-clause-views
returns-clause-views c = held_views_stay

pub returns-clause-vacant : goal.returns-clause-vacant
returns-clause-vacant c = vacant_stays

pub returns-clause-unnamed : goal.returns-clause-unnamed
returns-clause-unnamed c = unnamed_stays

pub returns-clause-safe : goal.returns-clause-safe
returns-clause-safe c = safe_stays
