use Rattle.store_core.proofs.GuardLaws.{history_guarded, history_moves, history_committed, history_closed}
use Rattle.store_core.proofs.guard_laws.histories_respect_guards.Goals as goal

pub returns : goal.returns
returns c = record { guarded = history_guarded; cleared = history_moves; committed = history_committed; closed = history_closed }
