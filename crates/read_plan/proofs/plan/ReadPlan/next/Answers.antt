use Rattle.std.proofs.Common.{◌∙◌, sym, refl}
use Rattle.read_plan.proofs.ReadLaws.{asks, own, asking}
use Rattle.read_plan.proofs.plan.ReadPlan.next.Goals as goal

pub returns-in-Some-clause-says : goal.returns-in-Some-clause-says
returns-in-Some-clause-says c = asks c.args.call c.args.self.now.phase c.in-Some.op (sym c.in_ok-op.ensures ∙ c.in-Some.is)

pub returns-in-Some-clause-own : goal.returns-in-Some-clause-own
returns-in-Some-clause-own c = own c.args.call c.args.self.now.phase c.in-Some.op (sym c.in_ok-op.ensures ∙ c.in-Some.is)

pub returns-in-Some-clause-stays : goal.returns-in-Some-clause-stays
returns-in-Some-clause-stays c = (asking c.args.call c.args.self.now.phase c.in-Some.op (sym c.in_ok-op.ensures ∙ c.in-Some.is), refl)
