use Rattle.global_tree.proofs.Seen.{nothing}
use Rattle.global_tree.proofs.tree.Tree.new.Goals as goal

pub returns-clause-values : goal.returns-clause-values
returns-clause-values c = (nothing c.new.result.items c.new.ensures.items).0

pub returns-clause-pins : goal.returns-clause-pins
returns-clause-pins c = (nothing c.new.result.items c.new.ensures.items).1
