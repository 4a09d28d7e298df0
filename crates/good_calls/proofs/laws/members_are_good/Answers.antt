use Rattle.good_calls.proofs.Rested.{members_are_good}
use Rattle.good_calls.proofs.laws.members_are_good.Goals as goal

pub returns : goal.returns
returns c = members_are_good
