use Rattle.memory_laws.proofs.Keeping.{starts_good}
use Rattle.memory_laws.proofs.laws.memory_starts_good.Goals as goal

pub returns : goal.returns
returns c = starts_good
