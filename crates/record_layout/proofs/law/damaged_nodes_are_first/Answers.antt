use Rattle.record_layout.proofs.DamageLaws.{damaged_first}
use Rattle.record_layout.proofs.law.damaged_nodes_are_first.Goals as goal

pub returns : goal.returns
returns c = damaged_first
