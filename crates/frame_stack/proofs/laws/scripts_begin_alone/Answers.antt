use Rattle.frame_stack.proofs.StackLaws.{scripts_begin}
use Rattle.frame_stack.proofs.laws.scripts_begin_alone.Goals as goal

pub returns : goal.returns
returns g c = scripts_begin
