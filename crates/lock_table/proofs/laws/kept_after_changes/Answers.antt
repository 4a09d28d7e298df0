use Rattle.lock_table.proofs.KeptLaws.{kept_granted, kept_given_back, kept_all_given_back, kept_tran_ended, kept_all_dropped}
use Rattle.lock_table.proofs.laws.kept_after_changes.Goals as goal

pub returns : goal.returns
returns c = record { granted = kept_granted; given_back = kept_given_back; all_given_back = kept_all_given_back; tran_ended = kept_tran_ended; all_dropped = kept_all_dropped }
