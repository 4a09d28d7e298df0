use Rattle.memory_laws.proofs.Keeping.{places_keep}
use Rattle.memory_laws.proofs.laws.places_are_holds.Goals as goal

pub returns : goal.returns
returns c = places_keep
