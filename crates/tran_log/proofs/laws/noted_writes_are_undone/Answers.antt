use Rattle.tran_log.proofs.LevelLaws.{undone_write}
use Rattle.tran_log.proofs.laws.noted_writes_are_undone.Goals as goal

pub returns : goal.returns
returns c = undone_write
