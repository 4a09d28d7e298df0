use Rattle.std.proofs.Common.{◌∙◌, sym, refl}
use Rattle.member_plan.proofs.NextLaws.{asks, asking}
use Rattle.member_plan.proofs.plan.MemberPlan.next.Goals as goal

pub returns-in-Some-clause-says : goal.returns-in-Some-clause-says
returns-in-Some-clause-says c = asks c.args.self.now.schema.now c.args.self.now.call c.args.self.now.phase c.in-Some.op (sym c.in_ok-op.ensures ∙ c.in-Some.is)

pub returns-in-Some-clause-stays : goal.returns-in-Some-clause-stays
returns-in-Some-clause-stays c = (asking c.args.self.now.schema.now c.args.self.now.call c.args.self.now.phase c.in-Some.op (sym c.in_ok-op.ensures ∙ c.in-Some.is), refl)
