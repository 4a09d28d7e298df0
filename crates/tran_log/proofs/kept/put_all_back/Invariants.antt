use Rattle.std.proofs.Common.{◌≡◌, ◌+◌, IsTrue}
use Rattle.std.specs.Vec.Iter.{into_iter_items}
use Rattle.std.specs.FinMap.{is_sorted}
use Rattle.obj_kinds.specs.declared.node.Node.{Node}
use Rattle.obj_kinds.specs.Order.{node_cmp}
use Rattle.tran_log.specs.Levels.{put_all, pins_of, times}
use Rattle.tran_log.proofs.kept.put_all_back.Given as goal

-- what is left to put back leads to the same end
abbrev pub invariant-loop-pair : goal.invariant-loop-pair
invariant-loop-pair l = record {
  rising : IsTrue (is_sorted node_cmp (into_iter_items l.pair-iterator));
  globals : put_all l.tree.globals (into_iter_items l.pair-iterator) ≡ put_all l.fn.tree.globals l.fn.kept.items;
  pins : (m : Node) → pins_of l.tree.pins m + times l.fn.kept.items m ≡ pins_of l.fn.tree.pins m + times (into_iter_items l.pair-iterator) m;
}
