use Rattle.memory_laws.proofs.Keeping.{calls_keep}
use Rattle.memory_laws.proofs.laws.calls_hold_what_they_answer.Goals as goal

pub returns : goal.returns
returns c = calls_keep
