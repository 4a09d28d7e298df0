use Rattle.tran_log.proofs.LevelLaws.{get-noted, get-undone}
use Rattle.tran_log.proofs.laws.levels_keep_first_values.Goals as goal

pub returns : goal.returns
returns c = record { first = λ l es n. get-noted es l n; undone = get-undone }
