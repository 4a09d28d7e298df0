use Rattle.memory_laws.proofs.MadeKept.{saved_objects_keep}
use Rattle.memory_laws.proofs.laws.saved_objects_keep_memory.Goals as goal

pub returns : goal.returns
returns c = saved_objects_keep
