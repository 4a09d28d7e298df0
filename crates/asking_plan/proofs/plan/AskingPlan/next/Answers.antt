use Rattle.std.proofs.Common.{rules, ◌≡◌, Some, None, sym, ap, ◌∙◌}
use Rattle.std.specs.Prelude.{slice_get}
use Rattle.store_calls.specs.Calls.{Asks, Inside}
use Rattle.asking_plan.specs.Asked.{asked_of}
use Rattle.asking_plan.proofs.AskedLaws.{says_none, says_some, is_there}
use Rattle.asking_plan.proofs.plan.AskingPlan.next.Goals as goal

pub returns-in-None : goal.returns-in-None
returns-in-None c classes =
    let none : slice_get c.args.self.now.askings c.args.self.now.at ≡ None = search rules in
    says_none c.args.self.now classes none

pub returns-in_ok-operation-in-Some : goal.returns-in_ok-operation-in-Some
returns-in_ok-operation-in-Some c =
    let some : slice_get c.args.self.now.askings c.args.self.now.at ≡ Some c.in-Some.asking.now = search rules in
    let op : c.in_ok-operation-in-Some.field-0 ≡ asked_of c.in-Some.asking.now = c.in_ok-operation-in-Some.ensures in
    (is_there c.args.self.now.askings c.args.self.now.at c.in-Some.asking.now some, λ classes. says_some c.args.self.now c.in-Some.asking.now classes some ∙ ap (λ o. Asks o Inside) (sym op))
