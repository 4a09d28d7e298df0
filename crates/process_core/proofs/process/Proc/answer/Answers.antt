use Rattle.process_core.proofs.Turns.{lacks}
use Rattle.process_core.proofs.process.Proc.answer.Goals as goal

pub returns-in-Err-clause-steps : goal.returns-in-Err-clause-steps
returns-in-Err-clause-steps c = lacks c.close.result c.close.new.self c.give.new.self _ c.close.ensures
