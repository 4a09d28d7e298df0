use Rattle.quiet_members.proofs.Calls.{news_quiet}
use Rattle.quiet_members.proofs.laws.new_objects_are_quiet.Goals as goal

pub returns : goal.returns
returns c = news_quiet
