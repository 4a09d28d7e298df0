use Rattle.tran_log.proofs.LevelLaws.{undone_commit}
use Rattle.tran_log.proofs.laws.inner_commits_keep_what_undoing_all_gives.Goals as goal

pub returns : goal.returns
returns c = undone_commit
