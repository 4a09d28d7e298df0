use Rattle.quiet_members.proofs.ManyMembers.{inserts_quiet}
use Rattle.quiet_members.proofs.laws.inserts_are_quiet.Goals as goal

pub returns : goal.returns
returns c = inserts_quiet
