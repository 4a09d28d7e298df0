use Rattle.std.proofs.Common.{◌≡◌, ℕ, IfOk, OnErr, sym, ◌∙◌, subst}
use Rattle.os_machine.specs.Runs.{running, Sees}
use Rattle.os_machine.proofs.Machines.{runs_now, ends_done, ends_failing, ends_halting}
use Rattle.os_machine.proofs.machine.Machine.go.Goals as goal

pub returns-in-Runs-clause-sees : goal.returns-in-Runs-clause-sees
returns-in-Runs-clause-sees c =
    subst (λ f. IfOk c.run.result (λ e. Sees e c.args.units.now c.run.new.units f c.run.new.self)) (sym (runs_now c.args.self.now (sym c.replace.ensures.value ∙ c.in-Runs.is))) c.run.ensures.sees

pub returns-in-Runs-clause-same : goal.returns-in-Runs-clause-same
returns-in-Runs-clause-same c =
    subst (λ f. OnErr c.run.result ((n : ℕ) → running c.run.new.self n ≡ f n)) (sym (runs_now c.args.self.now (sym c.replace.ensures.value ∙ c.in-Runs.is))) c.run.ensures.same

pub returns-in-Done-clause-sees : goal.returns-in-Done-clause-sees
returns-in-Done-clause-sees c = ends_done c.args.self.now c.in-Done.value c.args.units.now c.args.self.now (sym c.replace.ensures.value ∙ c.in-Done.is)

pub returns-in-Fails-clause-sees : goal.returns-in-Fails-clause-sees
returns-in-Fails-clause-sees c = ends_failing c.args.self.now c.in-Fails.name c.in-Fails.line c.args.units.now c.args.self.now (sym c.replace.ensures.value ∙ c.in-Fails.is)

pub returns-in-Halts-clause-sees : goal.returns-in-Halts-clause-sees
returns-in-Halts-clause-sees c = ends_halting c.args.self.now c.args.units.now c.args.self.now (sym c.replace.ensures.value ∙ c.in-Halts.is)
