use Rattle.good_calls.proofs.Rested.{raises_tell_true}
use Rattle.good_calls.proofs.laws.raises_tell_true.Goals as goal

pub returns : goal.returns
returns c = raises_tell_true
