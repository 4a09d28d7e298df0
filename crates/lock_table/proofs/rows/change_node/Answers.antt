use Rattle.lock_table.proofs.RowLaws.{by_modes}
use Rattle.lock_table.proofs.rows.change_node.Goals as goal

pub returns-clause-at : goal.returns-clause-at
returns-clause-at c = λ q. by_modes c.args.node.now c.args.pid c.args.change q _ _ _ (c.change_mode.ensures.at q) (c.change_mode-2.ensures.at q)
