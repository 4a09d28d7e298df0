use Rattle.std.proofs.Common.{None, subst, ◌∙◌}
use Rattle.os_machine.specs.Places.{CountsTo}
use Rattle.os_machine.specs.States.{Steps, frame_at}
use Rattle.os_machine.proofs.Steps.{quiets_then, tells_then}
use Rattle.os_machine.proofs.Accounts.{told_after}
use Rattle.os_machine.proofs.local.Local.run.Goals as goal

pub returns-in-Some-clause-ok : goal.returns-in-Some-clause-ok
returns-in-Some-clause-ok c =
    let code = c.args.code.now in
    let now : Steps code c.in_ok-step.field-0 c.steps.units c.step.new.units c.steps.self c.step.new.self = c.in_ok-step.ensures.ok in
    tells_then c.args.units.now c.steps.units (frame_at code c.args.self.now) (frame_at code c.steps.self) c.steps.invariant.quiet code c.step.new.units c.in-Some.told c.step.new.self (subst (λ t. Steps code t c.steps.units c.step.new.units c.steps.self c.step.new.self) c.in-Some.is now)

pub returns-in-Some-clause-orefs : goal.returns-in-Some-clause-orefs
returns-in-Some-clause-orefs c =
    let now : CountsTo c.in_ok-step.field-0 c.steps.self c.step.new.self = c.in_ok-step.ensures.orefs in
    told_after c.in-Some.told c.args.self.now c.steps.self c.step.new.self c.steps.invariant.kept (subst (λ t. CountsTo t c.steps.self c.step.new.self) c.in-Some.is now)

pub steps-preserved : goal.steps-preserved
steps-preserved c =
    let code = c.args.code.now in
    let now : Steps code c.in_ok-step.field-0 c.steps.units c.step.new.units c.steps.self c.step.new.self = c.in_ok-step.ensures.ok in
    let kept : CountsTo c.in_ok-step.field-0 c.steps.self c.step.new.self = c.in_ok-step.ensures.orefs in
    let same : CountsTo None c.steps.self c.step.new.self = subst (λ t. CountsTo t c.steps.self c.step.new.self) c.in-None.is kept in
    record {
      quiet = quiets_then c.args.units.now c.steps.units (frame_at code c.args.self.now) (frame_at code c.steps.self) c.steps.invariant.quiet c.step.new.units (frame_at code c.step.new.self) (subst (λ t. Steps code t c.steps.units c.step.new.units c.steps.self c.step.new.self) c.in-None.is now);
      kept = λ k. same k ∙ c.steps.invariant.kept k;
    }
