use Rattle.std.proofs.Common.{rules, ◌+◌, refl, subst}
use Rattle.asking_plan.specs.Asked.{IsVerdict}
use Rattle.asking_plan.proofs.AskedLaws.{taken_done, taken_again, taken_refused}
use Rattle.asking_plan.proofs.plan.AskingPlan.take.Goals as goal

pub returns-in-Done-clause-taken : goal.returns-in-Done-clause-taken
returns-in-Done-clause-taken c classes =
    taken_done c.args.self.now c.index-as_slice-self.result c.index-as_slice-self.result c.args.reply classes c.requires.asked (search rules)
    (record { askings = c.args.self.now.askings; at = c.args.self.now.at + 1; each = c.args.self.now.each; more = c.args.self.now.each })
    (subst (IsVerdict c.args.self.now.more c.index-as_slice-self.result c.args.reply) c.in-Done.is (λ cs. c.in_ok-verdict_on.ensures cs)) refl refl refl refl

pub returns-in-Again-clause-taken : goal.returns-in-Again-clause-taken
returns-in-Again-clause-taken c classes =
    taken_again c.args.self.now c.index-as_slice-self.result c.index-as_slice-self.result c.args.reply classes c.requires.asked (search rules)
    (record { askings = c.args.self.now.askings; at = c.args.self.now.at; each = c.args.self.now.each; more = c.saturating_sub-self.result })
    (subst (IsVerdict c.args.self.now.more c.index-as_slice-self.result c.args.reply) c.in-Again.is (λ cs. c.in_ok-verdict_on.ensures cs)) refl refl refl c.saturating_sub-self.ensures

pub returns-in-Refused-clause-taken : goal.returns-in-Refused-clause-taken
returns-in-Refused-clause-taken c classes =
    taken_refused c.args.self.now c.index-as_slice-self.result c.index-as_slice-self.result c.args.reply classes c.requires.asked (search rules) c.in-Refused.cause
    (subst (IsVerdict c.args.self.now.more c.index-as_slice-self.result c.args.reply) c.in-Refused.is (λ cs. c.in_ok-verdict_on.ensures cs))
