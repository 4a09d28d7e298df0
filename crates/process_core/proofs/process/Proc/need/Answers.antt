use Rattle.std.proofs.Common.{refl, sym, ap, ◌∙◌}
use Rattle.process_core.specs.declared.process.Claim.{Claim}
use Rattle.process_core.specs.declared.process.Phase.TheVariants as phase
use Rattle.process_core.specs.Left.{needed}
use Rattle.process_core.proofs.Turns.{trying_left}
use Rattle.process_core.proofs.process.Proc.need.Goals as goal

pub returns-in-TryLock-clause-steps : goal.returns-in-TryLock-clause-steps
returns-in-TryLock-clause-steps c =
    let p = c.args.self.now in
    let claim : Claim = record { node = c.in-TryLock.node; mode = c.in-TryLock.mode; times = c.in-TryLock.tries } in
    (trying_left (record p { phase = phase.Tries claim }) claim refl ∙ ap (λ x. needed x p) (sym c.in-TryLock.is), refl)
