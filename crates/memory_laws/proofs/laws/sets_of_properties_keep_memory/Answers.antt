use Rattle.memory_laws.proofs.SetsKept.{sets_keep}
use Rattle.memory_laws.proofs.laws.sets_of_properties_keep_memory.Goals as goal

pub returns : goal.returns
returns c = sets_keep
