use Rattle.std.proofs.Common.{◌++◌, ap, sym, ◌∙◌, subst}
use Rattle.os_machine.specs.Runs.{running, Sees}
use Rattle.lone_process.specs.Plays.{plays}
use Rattle.lone_process.proofs.Playing.{printed, held, lost, pointed, asked, ended, given}
use Rattle.lone_process.proofs.process.Process.turn.Goals as goal

pub returns-in_ok-push_slice-in-Print-clause-goes : goal.returns-in_ok-push_slice-in-Print-clause-goes
returns-in_ok-push_slice-in-Print-clause-goes c =
    let old = c.args.self.now in
    let seen = subst (λ e. Sees e old.left c.go.new.units (running old.machine) c.go.new.self) c.in-Print.is c.in_ok-text.ensures.sees in
    printed old.kept c.args.store.now c.args.out.now old.left c.go.new.units (running old.machine) c.go.new.self c.in-Print.text seen
    ∙ ap (λ o. plays (running c.go.new.self c.go.new.units) old.kept c.args.store.now o) (sym (c.in_ok-push_slice-in-Print.ensures.ok ∙ ap (λ t. c.args.out.now ++ t) c.as_slice.ensures))

pub returns-in_ok-give-in-Need-clause-goes : goal.returns-in_ok-give-in-Need-clause-goes
returns-in_ok-give-in-Need-clause-goes c =
    let old = c.args.self.now in
    let seen = subst (λ e. Sees e old.left c.go.new.units (running old.machine) c.go.new.self) c.in-Need.is c.in_ok-text.ensures.sees in
    asked old.kept c.args.store.now c.args.out.now old.left c.go.new.units (running old.machine) c.go.new.self c.in-Need.call seen
    ∙ given c.in-Need.call old.kept c.answer.new.kept c.args.store.now c.answer.new.store c.in_ok-answer-in-Need.answer c.go.new.self c.give.new.self c.go.new.units c.args.out.now c.in_ok-answer-in-Need.ensures c.in_ok-give-in-Need.ensures.goes_on

pub returns-in-More-clause-goes : goal.returns-in-More-clause-goes
returns-in-More-clause-goes c =
    let old = c.args.self.now in
    held old.kept c.args.store.now c.args.out.now old.left c.go.new.units (running old.machine) c.go.new.self c.in-More.field-0 (subst (λ e. Sees e old.left c.go.new.units (running old.machine) c.go.new.self) c.in-More.is c.in_ok-text.ensures.sees)

pub returns-in-Less-clause-goes : goal.returns-in-Less-clause-goes
returns-in-Less-clause-goes c =
    let old = c.args.self.now in
    lost old.kept c.args.store.now c.args.out.now old.left c.go.new.units (running old.machine) c.go.new.self c.in-Less.field-0 (subst (λ e. Sees e old.left c.go.new.units (running old.machine) c.go.new.self) c.in-Less.is c.in_ok-text.ensures.sees)

pub returns-in-Point-clause-goes : goal.returns-in-Point-clause-goes
returns-in-Point-clause-goes c =
    let old = c.args.self.now in
    pointed old.kept c.args.store.now c.args.out.now old.left c.go.new.units (running old.machine) c.go.new.self (subst (λ e. Sees e old.left c.go.new.units (running old.machine) c.go.new.self) c.in-Point.is c.in_ok-text.ensures.sees)

pub returns-in-Finished-clause-ends : goal.returns-in-Finished-clause-ends
returns-in-Finished-clause-ends c =
    let old = c.args.self.now in
    ended old.kept c.args.store.now c.args.out.now old.left c.go.new.units (running old.machine) c.go.new.self c.in-Finished.end (subst (λ e. Sees e old.left c.go.new.units (running old.machine) c.go.new.self) c.in-Finished.is c.in_ok-text.ensures.sees)
