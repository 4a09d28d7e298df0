use Rattle.dump_reading.proofs.ExactLaws.{node_exact}
use Rattle.dump_reading.proofs.law.nodes_are_read_exactly.Goals as goal

pub returns : goal.returns
returns c = node_exact
