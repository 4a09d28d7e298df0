use Rattle.std.proofs.Common.{◌≡◌, ◌+◌, drop}
use Rattle.obj_kinds.specs.declared.node.Node.{Node}
use Rattle.tran_log.specs.Levels.{pins_of, times}
use Rattle.tran_log.proofs.kept.unpin_all.Given as goal

-- the pins of the pairs that are left are still there
abbrev pub invariant-loop-pair : goal.invariant-loop-pair
invariant-loop-pair l = record {
  globals : l.tree.globals ≡ l.fn.tree.globals;
  pins : (m : Node) → pins_of l.tree.pins m + times l.fn.kept.items m ≡ pins_of l.fn.tree.pins m + times (drop l.pair-index l.fn.kept.items) m;
}
