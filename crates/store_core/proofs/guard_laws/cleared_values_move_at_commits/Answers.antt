use Rattle.store_core.proofs.GuardLaws.{moves_at_commits}
use Rattle.store_core.proofs.guard_laws.cleared_values_move_at_commits.Goals as goal

pub returns : goal.returns
returns c = moves_at_commits
