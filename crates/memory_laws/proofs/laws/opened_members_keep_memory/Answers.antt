use Rattle.memory_laws.proofs.SidesKept.{members_keep}
use Rattle.memory_laws.proofs.laws.opened_members_keep_memory.Goals as goal

pub returns : goal.returns
returns c = members_keep
