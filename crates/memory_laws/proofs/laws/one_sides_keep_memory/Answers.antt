use Rattle.memory_laws.proofs.SidesKept.{one_sides_keep}
use Rattle.memory_laws.proofs.laws.one_sides_keep_memory.Goals as goal

pub returns : goal.returns
returns c = one_sides_keep
