use Rattle.memory_laws.proofs.MadeKept.{new_objects_keep}
use Rattle.memory_laws.proofs.laws.new_objects_keep_memory.Goals as goal

pub returns : goal.returns
returns c = new_objects_keep
