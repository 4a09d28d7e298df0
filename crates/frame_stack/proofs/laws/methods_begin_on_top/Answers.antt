use Rattle.frame_stack.proofs.StackLaws.{methods_begin, none_begins}
use Rattle.frame_stack.proofs.laws.methods_begin_on_top.Goals as goal

pub returns-clause-begin : goal.returns-clause-begin
returns-clause-begin g c = methods_begin

pub returns-clause-full : goal.returns-clause-full
returns-clause-full g c = none_begins
