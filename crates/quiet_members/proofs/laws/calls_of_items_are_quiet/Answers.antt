use Rattle.quiet_members.proofs.Whole.{items_quiet}
use Rattle.quiet_members.proofs.laws.calls_of_items_are_quiet.Goals as goal

pub returns : goal.returns
returns c = items_quiet
