use Rattle.std.proofs.Common.{arith, sym, ◌∙◌, ap}
use Rattle.storage_map.proofs.RowLaws.{taken}
use Rattle.storage_map.proofs.row_nodes.take_items.Goals as goal

pub loop-left-preserved : goal.loop-left-preserved
loop-left-preserved c =
    taken c.loop-left.items c.loop-left.left (λ e. omega (arith, c.loop-left-test.true, e)) c.in-Some.ensures.some c.loop-left.invariant.0 c.loop-left.invariant.1 c.in_ok-item_of.field-0 c.in_ok-item_of.ensures c.in_ok-push.ensures.ok
