use Rattle.store_core.proofs.HistoryLaws.{legal_step, state_more, volume_more}
use Rattle.store_core.proofs.laws.steps_keep_histories_legal.Goals as goal

pub returns : goal.returns
returns c = record { legal = legal_step; state = state_more; volume = volume_more }
