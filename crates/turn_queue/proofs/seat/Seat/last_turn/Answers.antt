use Rattle.std.proofs.Common.{ap, ◌∙◌}
use Rattle.store_core.specs.Ledger.{Ledger}
use Rattle.turn_queue.specs.Seated.{Seated}
use Rattle.turn_queue.proofs.Numbered.{all_have}
use Rattle.turn_queue.proofs.seat.Seat.last_turn.Goals as goal

pub returns-clause-others : goal.returns-clause-others
returns-clause-others g c =
    all_have _ _ _ (ap (λ (l : Ledger). l.pids) c.take-store.ensures.opened ∙ ap (λ (s : Seated). s.opened.pids) c.self.view_is) c.seen.ensures.sound c.requires.all
