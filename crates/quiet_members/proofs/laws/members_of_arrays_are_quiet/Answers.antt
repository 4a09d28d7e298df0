use Rattle.quiet_members.proofs.ArrayMembers.{arrays_quiet}
use Rattle.quiet_members.proofs.laws.members_of_arrays_are_quiet.Goals as goal

pub returns : goal.returns
returns c = arrays_quiet
