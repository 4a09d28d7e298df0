use Rattle.std.proofs.Common.{sym, ap, ◌∙◌, subst}
use Rattle.os_machine.specs.Runs.{running, Sees}
use Rattle.store_calls.specs.Calls.{Give}
use Rattle.process_core.specs.Left.{Steps}
use Rattle.process_core.specs.Ends.{ending_by}
use Rattle.process_core.proofs.Turns.{lacks, prints, holds, loses, points, needs_next, finishes, ends_so}
use Rattle.process_core.proofs.process.Proc.run.Goals as goal

pub returns-in-Ok-Need-clause-steps : goal.returns-in-Ok-Need-clause-steps
returns-in-Ok-Need-clause-steps c =
    let p = c.args.self.now in
    subst (λ x. Steps c.need.result x c.need.new.self) (sym (needs_next p c.requires.runs c.requires.ready c.go.new.self c.go.ensures.others c.go.new.units c.in-Ok-Need.call (subst (λ e. Sees e p.units c.go.new.units (running p.stack.top.machine) c.go.new.self.top.machine) c.in-Ok-Need.field-0-is c.in-Ok-Need.ensures.sees))) c.need.ensures.steps

pub returns-in-Ok-Print-clause-steps : goal.returns-in-Ok-Print-clause-steps
returns-in-Ok-Print-clause-steps c =
    let p = c.args.self.now in
    prints p c.requires.runs c.requires.ready c.go.new.self c.go.ensures.others c.go.new.units c.in-Ok-Print.text (subst (λ e. Sees e p.units c.go.new.units (running p.stack.top.machine) c.go.new.self.top.machine) c.in-Ok-Print.field-0-is c.in-Ok-Print.ensures.sees)

pub returns-in-Ok-More-clause-steps : goal.returns-in-Ok-More-clause-steps
returns-in-Ok-More-clause-steps c =
    let p = c.args.self.now in
    holds p c.requires.runs c.requires.ready c.go.new.self c.go.ensures.others c.go.new.units c.in-Ok-More.field-0-0 (subst (λ e. Sees e p.units c.go.new.units (running p.stack.top.machine) c.go.new.self.top.machine) c.in-Ok-More.field-0-is c.in-Ok-More.ensures.sees)

pub returns-in-Ok-Less-clause-steps : goal.returns-in-Ok-Less-clause-steps
returns-in-Ok-Less-clause-steps c =
    let p = c.args.self.now in
    loses p c.requires.runs c.requires.ready c.go.new.self c.go.ensures.others c.go.new.units c.in-Ok-Less.field-0-0 (subst (λ e. Sees e p.units c.go.new.units (running p.stack.top.machine) c.go.new.self.top.machine) c.in-Ok-Less.field-0-is c.in-Ok-Less.ensures.sees)

pub returns-in-Ok-Point-clause-steps : goal.returns-in-Ok-Point-clause-steps
returns-in-Ok-Point-clause-steps c =
    let p = c.args.self.now in
    points p c.requires.runs c.requires.ready c.go.new.self c.go.ensures.others c.go.new.units (subst (λ e. Sees e p.units c.go.new.units (running p.stack.top.machine) c.go.new.self.top.machine) c.in-Ok-Point.field-0-is c.in-Ok-Point.ensures.sees)

pub returns-in-Ok-Finished-clause-steps : goal.returns-in-Ok-Finished-clause-steps
returns-in-Ok-Finished-clause-steps c =
    let p = c.args.self.now in
    ends_so c.end_by.result c.close.result c.close.new.self (record p { stack = c.go.new.self; units = c.go.new.units }) _ c.close.ensures
    (finishes p c.requires.runs c.requires.ready c.go.new.self c.go.ensures.others c.go.new.units c.in-Ok-Finished.end c.requires.script (subst (λ e. Sees e p.units c.go.new.units (running p.stack.top.machine) c.go.new.self.top.machine) c.in-Ok-Finished.field-0-is c.in-Ok-Finished.ensures.sees) ∙ ap (λ e. Give (ending_by e)) (sym c.end_by.ensures))

pub returns-in-Err-clause-steps : goal.returns-in-Err-clause-steps
returns-in-Err-clause-steps c =
    lacks c.close-in-Err.result c.close-in-Err.new.self (record c.args.self.now { stack = c.go.new.self; units = c.go.new.units }) _ c.close-in-Err.ensures
