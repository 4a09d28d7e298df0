use Rattle.std.proofs.Common.{◌≡◌, take}
use Rattle.std.specs.FinMap.{from_entries}
use Rattle.obj_kinds.specs.declared.node.Node.{Node}
use Rattle.global_tree.specs.Contents.{pins_of}
use Rattle.store_core.proofs.opening.tree_of.Given as goal

-- the nodes so far are in the tree
abbrev pub invariant-loop-pair : goal.invariant-loop-pair
invariant-loop-pair l = record {
  globals : l.tree.globals ≡ from_entries (take l.pair-index l.nodes);
  pins : (n : Node) → pins_of l.tree.pins n ≡ 0;
}
