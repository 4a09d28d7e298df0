use Rattle.std.proofs.Common.{◌≡◌, refl, ap, sym, ◌∙◌}
use Rattle.os_machine.specs.Receiving.{Taken, takes}
use Rattle.os_machine.specs.declared.machine.Phase.TheVariants as phase
use Rattle.os_machine.specs.declared.stepped.Received.TheVariants as got
use Rattle.os_machine.proofs.Machines.{given_goes, given_fails, given_halts, given_places}
use Rattle.os_machine.proofs.machine.Machine.take.Goals as goal

pub returns-in-Goes-clause-goes_on : goal.returns-in-Goes-clause-goes_on
returns-in-Goes-clause-goes_on c =
    let old = c.args.self.now in
    let is : ◌≡◌ {A = Taken} (got.Goes c.in-Goes.over, c.take.new.self) (takes c.args.awaits c.args.answer old.local.work) = ap (λ r. (r, c.take.new.self)) (sym c.in-Goes.is) ∙ c.in_ok-received.ensures.ok in
    given_goes old c.args.awaits c.args.answer c.take.new.self c.in-Goes.over _ is (ap (λ l. record old { owed = 0; phase = phase.Runs; local = l }) c.pass.ensures)

pub returns-in-Fails-clause-goes_on : goal.returns-in-Fails-clause-goes_on
returns-in-Fails-clause-goes_on c =
    let old = c.args.self.now in
    let is : ◌≡◌ {A = Taken} (got.Fails c.in-Fails.name c.in-Fails.line, c.take.new.self) (takes c.args.awaits c.args.answer old.local.work) = ap (λ r. (r, c.take.new.self)) (sym c.in-Fails.is) ∙ c.in_ok-received.ensures.ok in
    given_fails old c.args.awaits c.args.answer c.take.new.self c.in-Fails.name c.in-Fails.line _ is refl

pub returns-in-Halts-clause-goes_on : goal.returns-in-Halts-clause-goes_on
returns-in-Halts-clause-goes_on c =
    let old = c.args.self.now in
    let is : ◌≡◌ {A = Taken} (got.Halts, c.take.new.self) (takes c.args.awaits c.args.answer old.local.work) = ap (λ r. (r, c.take.new.self)) (sym c.in-Halts.is) ∙ c.in_ok-received.ensures.ok in
    given_halts old c.args.awaits c.args.answer c.take.new.self _ is refl

pub returns-in-Goes-clause-orefs : goal.returns-in-Goes-clause-orefs
returns-in-Goes-clause-orefs c = λ o.
    given_places c.args.self.now c.args.awaits c.args.answer c.take.new.self c.in_ok-received.received (record c.args.self.now { owed = 0; phase = phase.Runs; local = c.pass.new.self }) o c.in_ok-received.ensures.ok (ap (λ l. l.this) c.pass.ensures) (ap (λ l. l.work) c.pass.ensures) refl

pub returns-in-Fails-clause-orefs : goal.returns-in-Fails-clause-orefs
returns-in-Fails-clause-orefs c = λ o.
    given_places c.args.self.now c.args.awaits c.args.answer c.take.new.self c.in_ok-received.received (record c.args.self.now { owed = 0; phase = phase.Fails c.in-Fails.name c.in-Fails.line; local = record c.args.self.now.local { work = c.take.new.self } }) o c.in_ok-received.ensures.ok refl refl refl

pub returns-in-Halts-clause-orefs : goal.returns-in-Halts-clause-orefs
returns-in-Halts-clause-orefs c = λ o.
    given_places c.args.self.now c.args.awaits c.args.answer c.take.new.self c.in_ok-received.received (record c.args.self.now { owed = 0; phase = phase.Halts; local = record c.args.self.now.local { work = c.take.new.self } }) o c.in_ok-received.ensures.ok refl refl refl
