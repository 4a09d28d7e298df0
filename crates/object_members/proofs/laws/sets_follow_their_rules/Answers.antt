use Rattle.object_members.proofs.StandLaws.{sets_by_rules, refuses_by_rules}
use Rattle.object_members.proofs.laws.sets_follow_their_rules.Goals as goal

pub returns-clause-sets : goal.returns-clause-sets
returns-clause-sets c = sets_by_rules

pub returns-clause-refuses : goal.returns-clause-refuses
returns-clause-refuses c = refuses_by_rules
