use Rattle.memory_laws.proofs.MadeKept.{loaded_objects_keep}
use Rattle.memory_laws.proofs.laws.loaded_objects_keep_memory.Goals as goal

pub returns : goal.returns
returns c = loaded_objects_keep
