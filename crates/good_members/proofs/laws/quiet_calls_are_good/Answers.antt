use Rattle.good_members.proofs.Kept.{quiet_calls_good}
use Rattle.good_members.proofs.laws.quiet_calls_are_good.Goals as goal

pub returns : goal.returns
returns c = quiet_calls_good
