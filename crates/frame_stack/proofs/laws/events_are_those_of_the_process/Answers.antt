use Rattle.frame_stack.proofs.StackLaws.{events_show}
use Rattle.frame_stack.proofs.laws.events_are_those_of_the_process.Goals as goal

pub returns : goal.returns
returns g c = events_show
