use Rattle.frame_stack.proofs.StackLaws.{values_go, processes_end}
use Rattle.frame_stack.proofs.laws.ends_go_to_the_frame_below.Goals as goal

pub returns-clause-value : goal.returns-clause-value
returns-clause-value g c = values_go

pub returns-clause-process : goal.returns-clause-process
returns-clause-process g c = processes_end
