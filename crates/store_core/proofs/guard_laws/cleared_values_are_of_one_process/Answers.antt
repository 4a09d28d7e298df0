use Rattle.store_core.proofs.GuardLaws.{cleared_one, cleared_guarded}
use Rattle.store_core.proofs.guard_laws.cleared_values_are_of_one_process.Goals as goal

pub returns : goal.returns
returns c = record { alone = cleared_one; guarded = cleared_guarded }
