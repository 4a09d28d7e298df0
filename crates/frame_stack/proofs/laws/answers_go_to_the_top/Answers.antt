use Rattle.frame_stack.proofs.StackLaws.{answers_go}
use Rattle.frame_stack.proofs.laws.answers_go_to_the_top.Goals as goal

pub returns : goal.returns
returns g c = answers_go
