use Rattle.std.proofs.Common.{inr}
use Rattle.process_core.specs.declared.end.End.TheVariants as own
use Rattle.process_core.proofs.Turns.{closed_left}
use Rattle.process_core.proofs.process.Proc.settle.Goals as goal

pub returns-in-Err-clause-takes : goal.returns-in-Err-clause-takes
returns-in-Err-clause-takes c = inr (closed_left own.NoMemory c.close.result c.close.new.self c.give.new.self c.close.ensures)
