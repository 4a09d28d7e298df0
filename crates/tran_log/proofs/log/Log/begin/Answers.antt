use Rattle.std.proofs.Common.{arith}
use Rattle.tran_log.proofs.StackLaws.{begun_levels}
use Rattle.tran_log.proofs.log.Log.begin.Goals as goal

pub returns-clause-levels : goal.returns-clause-levels
returns-clause-levels c = begun_levels c.self.inside.levels.items c.push.new.self.items c.new.result _ c.self.view_is c.in_ok-push.ensures.items c.new.ensures.items (omega arith)
