use Rattle.quiet_members.proofs.Whole.{classes_quiet}
use Rattle.quiet_members.proofs.laws.calls_of_classes_are_quiet.Goals as goal

pub returns : goal.returns
returns c = classes_quiet
