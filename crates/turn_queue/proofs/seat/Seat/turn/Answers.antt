use Rattle.std.proofs.Common.{◌≡◌, true, ap, sym, ◌∙◌, subst}
use Rattle.store_core.specs.Machine.{is_live}
use Rattle.store_core.specs.Ledger.{state_of, with_entry, next_entry}
use Rattle.crossbeam_queue.specs.Passes.{view}
use Rattle.turn_queue.proofs.Seats.{live_at, has_at, idle_entered}
use Rattle.turn_queue.proofs.seat.Seat.turn.Goals as goal

pub apply-requires-clause-live : goal.apply-requires-clause-live
apply-requires-clause-live g c = live_at (view c.self.inside.turns) _ _ _ (ap (λ s. s.parts) c.self.view_is) c.take-store.ensures.fits c.requires.live

pub enter-requires-clause-own : goal.enter-requires-clause-own
enter-requires-clause-own g c = has_at (view c.self.inside.turns) (view c.take-store.new.turns) _ _ _ (ap (λ s. s.parts) c.self.view_is) c.take-store.ensures.taken c.requires.live

pub invariant_of-self : goal.invariant_of-self
invariant_of-self g c =
    let e = next_entry c.take-store.result c.args.pid c.args.op in
    idle_entered _ c.self.inside.turns c.take-store.new.turns c.enter.new.turns _ _ _ c.self.invariant c.take-store.ensures.queue c.take-store.ensures.taken c.enter.ensures.queue
    (c.enter.ensures.entered e (c.in-Ok.ensures.entry ∙ ap (λ l. with_entry l e) (sym c.seen-before.ensures.same)))

pub refuse-requires-clause-live : goal.refuse-requires-clause-live
refuse-requires-clause-live g c =
    subst (λ l. is_live (state_of l) c.args.pid ≡ true) (sym c.in-Err-Volume.ensures.err)
    (live_at (view c.self.inside.turns) _ _ _ (ap (λ s. s.parts) c.self.view_is) c.take-store.ensures.fits c.requires.live)

pub refuse-requires-clause-own : goal.refuse-requires-clause-own
refuse-requires-clause-own g c = has_at (view c.self.inside.turns) (view c.take-store.new.turns) _ _ _ (ap (λ s. s.parts) c.self.view_is) c.take-store.ensures.taken c.requires.live

pub invariant_of-self-in-Err-Volume : goal.invariant_of-self-in-Err-Volume
invariant_of-self-in-Err-Volume g c = idle_entered _ c.self.inside.turns c.take-store.new.turns c.refuse.new.turns _ _ _ c.self.invariant c.take-store.ensures.queue c.take-store.ensures.taken c.refuse.ensures.queue c.refuse.ensures.entered
