use Rattle.good_deletes.proofs.Good.{deletes_are_good}
use Rattle.good_deletes.proofs.laws.deletes_are_good.Goals as goal

pub returns : goal.returns
returns c = deletes_are_good
