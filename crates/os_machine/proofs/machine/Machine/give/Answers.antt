use Rattle.std.proofs.Common.{ap, sym, ◌∙◌}
use Rattle.std.proofs.lemmas.Result.{on_ok_weaker}
use Rattle.os_machine.proofs.Machines.{awaits_now}
use Rattle.os_machine.proofs.machine.Machine.give.Goals as goal

pub returns-in-Waits-clause-goes_on : goal.returns-in-Waits-clause-goes_on
returns-in-Waits-clause-goes_on c =
    on_ok_weaker c.take.result (λ h n. h n ∙ ap (λ f. f n) (sym (awaits_now c.args.self.now c.in-Waits.awaits c.args.answer c.in-Waits.is))) c.take.ensures.goes_on
