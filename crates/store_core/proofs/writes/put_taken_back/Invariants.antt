use Rattle.std.proofs.Common.{◌≡◌, ◌+◌, length}
use Rattle.obj_kinds.specs.declared.node.Node.{Node}
use Rattle.tran_log.specs.Levels.{put_all, as_olds, times, pins_of}
use Rattle.store_core.proofs.writes.put_taken_back.Given as goal

-- what is left to put back leads to the same end
abbrev pub invariant-loop-pair : goal.invariant-loop-pair
invariant-loop-pair l = record {
  globals : put_all l.tree.globals (as_olds l.pairs) ≡ put_all l.fn.tree.globals (as_olds l.fn.pairs);
  pins : (m : Node) → pins_of l.tree.pins m + times l.fn.pairs m ≡ pins_of l.fn.tree.pins m + times l.pairs m;
}

abbrev pub decreases-loop-pair : goal.decreases-loop-pair
decreases-loop-pair l = length l.pairs
