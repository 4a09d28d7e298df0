use Rattle.save_works.proofs.StepLaws.{asks_locks}
use Rattle.save_works.proofs.law.what_is_asked_is_what_a_save_does.Goals as goal

pub returns-clause-locks : goal.returns-clause-locks
returns-clause-locks c = asks_locks
