use Rattle.quiet_members.proofs.ListMembers.{lists_quiet}
use Rattle.quiet_members.proofs.laws.members_of_lists_are_quiet.Goals as goal

pub returns : goal.returns
returns c = lists_quiet
