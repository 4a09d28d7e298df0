use Rattle.good_saves.proofs.Good.{saves_are_good}
use Rattle.good_saves.proofs.laws.saves_are_good.Goals as goal

pub returns : goal.returns
returns c = saves_are_good
