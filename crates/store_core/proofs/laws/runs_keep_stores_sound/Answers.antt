use Rattle.store_core.proofs.LedgerLaws.{ran_opened, ran_history, ran_state, ran_sound, next_end, beginning_legal}
use Rattle.store_core.proofs.laws.runs_keep_stores_sound.Goals as goal

pub returns : goal.returns
returns c = record { opened = ran_opened; history = ran_history; state = ran_state; sound = ran_sound; ends = next_end; beginnings = beginning_legal }
