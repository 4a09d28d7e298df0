use Rattle.sound_runs.proofs.Viewed.{rows_are_as_viewed, guarded_are_as_viewed}
use Rattle.sound_runs.proofs.RowTells.{rows_tell_objects}
use Rattle.sound_runs.proofs.reads.reads_show_views.Goals as goal

pub returns-clause-rows : goal.returns-clause-rows
returns-clause-rows c = rows_are_as_viewed

pub returns-clause-guarded : goal.returns-clause-guarded
returns-clause-guarded c = guarded_are_as_viewed

pub returns-clause-objects : goal.returns-clause-objects
returns-clause-objects c = rows_tell_objects
