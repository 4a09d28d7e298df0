use Rattle.lock_table.proofs.TurnLaws.{IsTurned}
use Rattle.lock_table.proofs.turn.change_nodes.Given as goal

abbrev pub invariant-loop-node : goal.invariant-loop-node
invariant-loop-node l = IsTurned l.fn.rows l.rows l.pid l.change l.nodes.keys l.node-iterator
