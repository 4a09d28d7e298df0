use Rattle.good_calls.proofs.Rested.{loads_tell_true}
use Rattle.good_calls.proofs.laws.loads_tell_true.Goals as goal

pub returns : goal.returns
returns c = loads_tell_true
