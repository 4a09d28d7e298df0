use Rattle.good_members.proofs.Kept.{quiet_members_good}
use Rattle.good_members.proofs.laws.members_that_ask_nothing_are_good.Goals as goal

pub returns : goal.returns
returns c = quiet_members_good
