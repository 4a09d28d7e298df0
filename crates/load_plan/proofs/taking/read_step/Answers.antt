use Rattle.std.proofs.Common.{IfOk, Result, Ok, Err}
use Rattle.load_plan.specs.Loads.{load_of}
use Rattle.load_plan.proofs.LoadLaws.{read_says}
use Rattle.load_plan.proofs.taking.read_step.Goals as goal

if_ok : {A E : Type 0} {P Q : A → Type 0} (r : Result A E) → ((a : A) → P a → Q a) → IfOk r P → IfOk r Q
if_ok (Ok a) f h = f a h
if_ok (Err e) f h = h

pub returns-clause-says : goal.returns-clause-says
returns-clause-says c =
    if_ok c.next.result
    (read_says c.read_call.result c.args.schema.now (load_of c.args.call.now) c.read_call.ensures.schema c.read_call.ensures.key c.read_call.ensures.wanted c.args.reading.now)
    c.next.ensures.says
