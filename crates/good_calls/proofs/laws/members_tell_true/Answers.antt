use Rattle.good_calls.proofs.Rested.{members_tell_true}
use Rattle.good_calls.proofs.laws.members_tell_true.Goals as goal

pub returns : goal.returns
returns c = members_tell_true
