use Rattle.std.proofs.Common.{◌-◌}
use Rattle.asking_plan.proofs.AskedLaws.{begun}
use Rattle.asking_plan.proofs.plan.AskingPlan.new.Goals as goal

pub returns : goal.returns
returns c classes = begun c.args.askings (c.args.tries - 1) classes
