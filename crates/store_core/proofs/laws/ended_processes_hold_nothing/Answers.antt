use Rattle.store_core.proofs.LedgerLaws.{end_live, end_levels, end_holds}
use Rattle.store_core.proofs.laws.ended_processes_hold_nothing.Goals as goal

pub returns : goal.returns
returns c = record { live = end_live; levels = end_levels; holds = end_holds }
