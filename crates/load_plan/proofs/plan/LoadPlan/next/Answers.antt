use Rattle.std.proofs.Common.{IfOk, Result, Ok, Err, subst}
use Rattle.load_plan.specs.Loads.{load_of, IsNext}
use Rattle.load_plan.proofs.LoadLaws.{next_of_same, no_read}
use Rattle.load_plan.proofs.plan.LoadPlan.next.Goals as goal

if_ok : {A E : Type 0} {P Q : A → Type 0} (r : Result A E) → ((a : A) → P a → Q a) → IfOk r P → IfOk r Q
if_ok (Ok a) f h = f a h
if_ok (Err e) f h = h

pub returns-in-None-clause-says : goal.returns-in-None-clause-says
returns-in-None-clause-says c =
    if_ok c.ask_or_tell.result
    (λ s h.
    next_of_same c.args.self.now.schema.now (load_of c.args.self.now.call) c.args.self.now.phase c.read_on.new.self.phase s
    (no_read c.args.self.now.schema.now (load_of c.args.self.now.call) c.args.self.now.phase c.read_on.new.self.phase c.in_ok-op.field-0 c.in-None.is c.in_ok-op.ensures.on)
    (subst (λ schema. IsNext schema (load_of c.args.self.now.call) s c.read_on.new.self.phase) c.read_on.ensures.schema
    (subst (λ call. IsNext c.read_on.new.self.schema.now (load_of call) s c.read_on.new.self.phase) c.read_on.ensures.call h)))
    c.ask_or_tell.ensures.says
