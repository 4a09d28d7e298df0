use Rattle.process_core.specs.Left.{left_of}
use Rattle.process_core.proofs.Turns.{lacks}
use Rattle.process_core.proofs.process.Proc.next.Goals as goal

pub returns-clause-shows : goal.returns-clause-shows
returns-clause-shows c = (lacks c.close.result c.close.new.self c.loop-step.self (left_of c.args.self.now) c.close.ensures).0
