use Rattle.good_calls.proofs.Rested.{raises_are_good}
use Rattle.good_calls.proofs.laws.raises_are_good.Goals as goal

pub returns : goal.returns
returns c = raises_are_good
