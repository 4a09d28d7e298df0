use Rattle.prop_setting.proofs.ListLaws.{none-back}
use Rattle.prop_setting.proofs.lists.let_back_go.Goals as goal

pub returns-in_default-clause-memory : goal.returns-in_default-clause-memory
returns-in_default-clause-memory c = none-back c.args.table.now c.args.back c.in_default.not-Some
