use Rattle.sound_runs.proofs.Found.{no_members_leave_unnamed}
use Rattle.sound_runs.proofs.stays.no_members_leave_keys_unnamed.Goals as goal

pub returns : goal.returns
returns c = no_members_leave_unnamed
