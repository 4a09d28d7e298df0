use Rattle.process_core.specs.declared.end.End.TheVariants as own
use Rattle.process_core.proofs.Turns.{closed_left}
use Rattle.process_core.proofs.process.Proc.fault.Goals as goal

pub returns-clause-ends : goal.returns-clause-ends
returns-clause-ends c = closed_left own.DeviceFault c.close.result c.close.new.self c.args.self.now c.close.ensures
