use Rattle.good_calls.proofs.Rested.{loads_are_good}
use Rattle.good_calls.proofs.laws.loads_are_good.Goals as goal

pub returns : goal.returns
returns c = loads_are_good
