use Rattle.world_images.proofs.TurnLaws.{nodes_turn}
use Rattle.world_images.proofs.law.changes_turn_nodes.Goals as goal

pub returns : goal.returns
returns c = λ classes key class old new e g n real in' even a b are. nodes_turn classes key class real in' even old new e g n a b are
