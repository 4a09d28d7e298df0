use Rattle.store_core.proofs.GuardLaws.{end_stays, end_goes}
use Rattle.store_core.proofs.guard_laws.locks_last_to_the_end.Goals as goal

pub returns : goal.returns
returns c = record { stay = end_stays; go = end_goes }
