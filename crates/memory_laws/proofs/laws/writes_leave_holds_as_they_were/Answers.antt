use Rattle.memory_laws.proofs.WritesKept.{writes_keep}
use Rattle.memory_laws.proofs.laws.writes_leave_holds_as_they_were.Goals as goal

pub returns : goal.returns
returns c = writes_keep
