use Rattle.std.proofs.Common.{◌≡◌, ℕ, sym, subst}
use Rattle.store_calls.specs.Calls.{Give, Got, Lost}
use Rattle.open_plan.specs.Opens.{to_come}
use Rattle.open_plan.proofs.OpenLaws.{made_tells, raised_tells, refused_tells}
use Rattle.open_plan.proofs.plan.OpenPlan.end.Goals as goal

pub returns-in_ok-held-in-Found-clause-says : goal.returns-in_ok-held-in-Found-clause-says
returns-in_ok-held-in-Found-clause-says c =
    subst (λ p. (most : ℕ) → to_come c.args.table.now p most ≡ Give (c.make.new.table, Got c.in_ok-held-in-Found.held.number)) (sym c.in-Found.is)
    (made_tells c.in-Found.found c.args.table.now c.make.new.table c.in_ok-held-in-Found.held.number c.in_ok-held-in-Found.ensures.made)

pub returns-in_ok-held-in-Raised-clause-says : goal.returns-in_ok-held-in-Raised-clause-says
returns-in_ok-held-in-Raised-clause-says c =
    subst (λ p. (most : ℕ) → to_come c.args.table.now p most ≡ Give (c.hold.new.table, Got c.in_ok-held-in-Raised.held.number)) (sym c.in-Raised.is)
    (raised_tells c.in-Raised.raised c.args.table.now c.hold.new.table c.in_ok-held-in-Raised.held.number c.in_ok-held-in-Raised.ensures.memory c.in_ok-held-in-Raised.ensures.held)

pub returns-in_default : goal.returns-in_default
returns-in_default c = record {
  says =
      subst (λ p. (most : ℕ) → to_come c.args.table.now p most ≡ Give (c.args.table.now, Lost c.refusal-cause.result)) (sym c.refusal-cause.ensures.was)
      (refused_tells c.refusal-cause.result c.args.table.now);
  goes = c.refusal-cause.ensures.is;
  err = tt;
  table = tt;
}
