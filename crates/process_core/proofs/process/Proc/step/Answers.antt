use Rattle.std.proofs.Common.{sym, subst}
use Rattle.process_core.specs.declared.process.Phase.TheVariants as phase
use Rattle.process_core.specs.Left.{Steps, left_of}
use Rattle.process_core.proofs.Turns.{ends_so, trying_left, ended_left}
use Rattle.process_core.proofs.process.Proc.step.Goals as goal

pub returns-in-Tries-clause-steps : goal.returns-in-Tries-clause-steps
returns-in-Tries-clause-steps c =
    subst (λ x. Steps c.try_lock.result x c.try_lock.new.self) (sym (trying_left c.args.self.now c.in-Tries.claim (sym c.in-Tries.ensures.value))) c.try_lock.ensures.steps

pub returns-in-Ended-clause-steps : goal.returns-in-Ended-clause-steps
returns-in-Ended-clause-steps c =
    let p = c.args.self.now in
    ends_so c.in-Ended.end c.close.result c.close.new.self (record p { phase = phase.Runs }) (left_of p) c.close.ensures (ended_left p c.in-Ended.end (sym c.in-Ended.ensures.value))
