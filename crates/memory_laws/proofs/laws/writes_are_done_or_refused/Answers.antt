use Rattle.memory_laws.proofs.WritesKept.{writes_come}
use Rattle.memory_laws.proofs.laws.writes_are_done_or_refused.Goals as goal

pub returns : goal.returns
returns c = writes_come
