use Rattle.image_laws.proofs.PlayedLaws.{writes_are_written}
use Rattle.image_laws.proofs.laws.writes_leave_what_is_written.Goals as goal

pub returns : goal.returns
returns c = writes_are_written
