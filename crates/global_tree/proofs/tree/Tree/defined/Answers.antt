use Rattle.std.proofs.Common.{refl, arith}
use Rattle.global_tree.proofs.tree.Tree.defined.Goals as goal

pub returns-in-None-None-clause-descendants : goal.returns-in-None-None-clause-descendants
returns-in-None-None-clause-descendants c = ((λ le. absurd (omega arith)), (λ has. absurd (c.in-None-None.ensures'.none has.0 refl has.1)))

pub returns-in-Some-None-clause-descendants : goal.returns-in-Some-None-clause-descendants
returns-in-Some-None-clause-descendants c = ((λ le. absurd (omega arith)), (λ has. absurd (c.in-Some-None.ensures'.none has.0 refl has.1)))
