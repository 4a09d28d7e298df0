use Rattle.read_plan.proofs.ReadLaws.{row_behind}
use Rattle.read_plan.proofs.taking.taken.Goals as goal

pub returns-in_ok-phase-in-AtRow-clause-ok : goal.returns-in_ok-phase-in-AtRow-clause-ok
returns-in_ok-phase-in-AtRow-clause-ok c = rw c.in-AtRow.is (row_behind c.args.call c.in_ok-phase-in-AtRow.field-0 c.args.reply c.in_ok-phase-in-AtRow.ensures.left)
