use Rattle.load_plan.proofs.ModeLaws.{test_of}
use Rattle.open_plan.proofs.start.is_at_or_below.Goals as goal

pub returns : goal.returns
returns c = test_of c.args.schema.now c.args.below.now c.args.above.now c.is_below.result c.is_below.ensures
