use Rattle.std.proofs.Common.{subst}
use Rattle.std.specs.Map.Iter.{deref}
use Rattle.std.proofs.lemmas.Map.Iter.{rest_more}
use Rattle.lock_table.proofs.TurnLaws.{IsTurned, turned_on}
use Rattle.lock_table.proofs.turn.change_nodes.Goals as goal

pub loop-node-preserved : goal.loop-node-preserved
loop-node-preserved c =
    let is = rest_more deref c.loop-node.node-iterator c.next.new.self c.next.result c.in-Some.node c.in-Some.is c.next.ensures.steps in
    turned_on c.args.rows.now c.loop-node.rows c.change_node.new.rows c.args.pid c.args.change c.args.nodes.now.keys c.in-Some.node.now c.next.new.self
    (subst (IsTurned c.args.rows.now c.loop-node.rows c.args.pid c.args.change c.args.nodes.now.keys) is c.loop-node.invariant) c.change_node.ensures.at c.change_node.ensures.ordered
