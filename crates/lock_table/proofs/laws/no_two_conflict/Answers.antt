use Rattle.lock_table.proofs.CallLaws.{all_free, all_held}
use Rattle.lock_table.proofs.laws.no_two_conflict.Goals as goal

pub returns : goal.returns
returns c = record { free = all_free; held = all_held }
