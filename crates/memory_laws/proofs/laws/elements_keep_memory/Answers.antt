use Rattle.memory_laws.proofs.SetsKept.{elements_keep}
use Rattle.memory_laws.proofs.laws.elements_keep_memory.Goals as goal

pub returns : goal.returns
returns c = elements_keep
