use Rattle.process_core.proofs.Turns.{goes_on_ok}
use Rattle.process_core.proofs.process.Proc.give.Goals as goal

pub returns-clause-goes_on : goal.returns-clause-goes_on
returns-clause-goes_on c =
    goes_on_ok c.give.result c.args.self.now c.requires.runs c.args.answer c.give.new.self c.give.ensures.goes_on c.give.ensures.others
