use Rattle.store_core.proofs.LedgerLaws.{counted_ends, numbered_live, silent_ended, stays_ended}
use Rattle.store_core.proofs.laws.processes_end_once.Goals as goal

pub returns : goal.returns
returns c = record { counted = counted_ends; numbered = numbered_live; silent = silent_ended; ended = stays_ended }
