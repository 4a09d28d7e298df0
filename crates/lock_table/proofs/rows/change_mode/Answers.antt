use Rattle.lock_table.proofs.RowLaws.{by_owners}
use Rattle.lock_table.proofs.rows.change_mode.Goals as goal

pub returns-clause-at : goal.returns-clause-at
returns-clause-at c = λ q. by_owners c.args.node.now c.args.pid c.args.change q c.args.mode _ _ _ (c.change_hold.ensures.at q) (c.change_hold-2.ensures.at q)
