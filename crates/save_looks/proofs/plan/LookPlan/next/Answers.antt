use Rattle.std.proofs.Common.{IfOk, Result, Ok, Err}
use Rattle.save_looks.specs.Looks.{item_of}
use Rattle.save_looks.proofs.LookLaws.{next_of_same, no_read}
use Rattle.save_looks.proofs.plan.LookPlan.next.Goals as goal

if_ok : {A E : Type 0} {P Q : A → Type 0} (r : Result A E) → ((a : A) → P a → Q a) → IfOk r P → IfOk r Q
if_ok (Ok a) f h = f a h
if_ok (Err e) f h = h

pub returns-in-None-clause-says : goal.returns-in-None-clause-says
returns-in-None-clause-says c =
    if_ok c.ask_or_tell.result
    (λ s h.
    next_of_same c.args.call.schema.now (item_of c.args.call.item.now) c.args.self.now.phase c.read_on.new.self.phase s
    (no_read c.args.call.schema.now (item_of c.args.call.item.now) c.args.self.now.phase c.read_on.new.self.phase c.in_ok-op.field-0 c.in-None.is c.in_ok-op.ensures.on) h)
    c.ask_or_tell.ensures.says
