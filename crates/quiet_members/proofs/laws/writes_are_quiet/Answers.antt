use Rattle.quiet_members.proofs.Calls.{writes_quiet}
use Rattle.quiet_members.proofs.laws.writes_are_quiet.Goals as goal

pub returns : goal.returns
returns c = writes_quiet
