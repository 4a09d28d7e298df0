use Rattle.std.proofs.Common.{◌≡◌, ◌≤◌, ℕ, true, List, ap, sym, subst, arith, ◌∙◌, All}
use Rattle.turn_queue.specs.declared.view.Part.{Part}
use Rattle.turn_queue.specs.Parts.{Fits, has}
use Rattle.turn_queue.specs.Seated.{Seated}
use Rattle.turn_trials.proofs.Pool.{ran_has, run_in}
use Rattle.turn_trials.proofs.run.run_all.Goals as goal

pub last_turn-requires : goal.last_turn-requires
last_turn-requires g c =
    let ran = c.in_ok-seat-2.ensures in
    let pids = ap (λ (s : Seated). s.opened.pids) ran.1 ∙ ap (λ l. l.pids) c.in_ok-seat.ensures.opened in
    record { all = λ p low high. ap (λ (s : Seated). has p s.parts) ran.1 ∙ ran_has 1 p c.args.plans.items ran.0 ran.2 low (omega (arith, high, pids, c.requires.plans)) }

pub returns-clause-run : goal.returns-clause-run
returns-clause-run g c =
    let ran = c.in_ok-seat-2.ensures in
    run_in c.last_turn.result 1 c.args.plans.items ran.0 ran.2 (subst (λ (s : Seated). All (Fits c.last_turn.result) s.parts) ran.1 c.last_turn.ensures.own.fits)
