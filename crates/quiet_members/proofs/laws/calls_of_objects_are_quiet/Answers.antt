use Rattle.quiet_members.proofs.Whole.{objects_quiet}
use Rattle.quiet_members.proofs.laws.calls_of_objects_are_quiet.Goals as goal

pub returns : goal.returns
returns c = objects_quiet
