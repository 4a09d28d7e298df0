use Rattle.std.proofs.Common.{arith}
use Rattle.store_core.proofs.Outcomes.{if_ok}
use Rattle.store_core.proofs.told.take_turn.Goals as goal

pub returns-clause-left : goal.returns-clause-left
returns-clause-left c = λ s is. if_ok c.told_turn.result (c.told_turn.ensures.left s is) (λ t h. omega (arith, h, c.in_ok-left.ensures.ok))
