use Rattle.std.proofs.Common.{rules}
use Rattle.method_table.proofs.Tables.{same_turn}
use Rattle.method_table.proofs.table.PlaceTable.is_same.Goals as goal

pub loop-at-preserved : goal.loop-at-preserved
loop-at-preserved c = same_turn c.args.self.now c.args.other.now c.loop-at.at c.loop-at.invariant (c.is_same_at.ensures (search rules))
