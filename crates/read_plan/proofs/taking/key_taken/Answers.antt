use Rattle.std.proofs.Common.{OnOk, Result, Ok, Err}
use Rattle.read_plan.proofs.ReadLaws.{key_next, key_last}
use Rattle.read_plan.proofs.taking.key_taken.Goals as goal

pub returns-in-Next-clause-ok : goal.returns-in-Next-clause-ok
returns-in-Next-clause-ok c = rw c.in-Next.is (rw c.await_element.ensures (key_next c.args.call c.args.phase.now c.in-Next.key c.requires))

pub returns : goal.returns
returns c = record {
  ok = on_ok c.array_ends.result (λ ends. key_last c.args.call c.args.phase.now c.array_ends.new.phase c.args.reply c.in_default.not-Next ends) c.array_ends.ensures.ok;
  told = c.array_ends.ensures.told;
  err = c.array_ends.ensures.err;
}
  where
    on_ok : {A E : Type 0} {P Q : Type 0} (r : Result A E) → (P → Q) → OnOk r P → OnOk r Q
    on_ok (Ok a) f h = f h
    on_ok (Err e) f h = h
