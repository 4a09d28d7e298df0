use Rattle.lock_table.proofs.RowLaws.{found_tidy}
use Rattle.lock_table.proofs.rows.tidy.Goals as goal

pub returns-then-is_idle-clause-same : goal.returns-then-is_idle-clause-same
returns-then-is_idle-clause-same c = found_tidy c.args.rows.now c.remove.new.self c.args.node.now (c.is_idle.ensures c.if-is_idle.true) (c.remove.ensures.updates.0)
