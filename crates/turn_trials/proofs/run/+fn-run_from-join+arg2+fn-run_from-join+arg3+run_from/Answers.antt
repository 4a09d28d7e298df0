use Rattle.std.proofs.Common.{◌≡◌, ◌+◌, ◌∙◌, ◌/◌, ◌++◌, List, ap, sym, subst, arith, length, vec_len}
use Rattle.std.proofs.lemmas.Result.{IfOk-at_ok}
use Rattle.turn_queue.specs.declared.view.Part.{Part}
use Rattle.turn_queue.specs.Seated.{seat_with}
use Rattle.turn_trials.specs.Runs.{HaveRun}
use Rattle.turn_trials.proofs.Pool.{beside, ran_beside}
use Rattle.turn_trials.proofs.run.+fn-run_from-join+arg2+fn-run_from-join+arg3+run_from.Goals as goal

pub returns : goal.returns
returns g t c =
    let k = c.in_ok-low.field-0 in
    let h = c.in_ok-low.ensures in
    let a = IfOk-at_ok (λ s. (parts : List Part) × (s ≡ seat_with k.low parts) × HaveRun c.args.first k.front.items parts) c.in_ok-low-2.was c.join-a.ensures.first in
    let b = IfOk-at_ok (λ s. (parts : List Part) × (s ≡ seat_with k.high parts) × HaveRun (c.args.first + c.len-count.result / 2) k.back.items parts) c.in_ok-high.was c.join-a.ensures.second in (
      a.0 ++ b.0,
      beside c.args.seat k.low k.high c.in_ok-low-2.low c.in_ok-high.high c.join.result _ _ a.0 b.0 h.low h.high a.1 b.1 c.join.ensures,
      subst (λ ps. HaveRun c.args.first ps (a.0 ++ b.0)) h.plans (ran_beside c.args.first (c.args.first + c.len-count.result / 2) k.front.items k.back.items a.0 b.0 (omega (arith, h.counts.0)) a.2 b.2),
    )
