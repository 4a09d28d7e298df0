use Rattle.os_value.proofs.EqualLaws.{decided}
use Rattle.os_value.proofs.comparisons.are_same.Goals as goal

pub returns : goal.returns
returns c = decided c.is_same.result c.args.a.now c.args.b.now c.is_same.ensures
