use Rattle.std.proofs.Common.{◌≡◌, ◌+◌, length}
use Rattle.obj_kinds.specs.declared.node.Node.{Node}
use Rattle.tran_log.specs.Levels.{all_undone, kept_by, pins_of}
use Rattle.tran_log.proofs.log.Log.undo_all.Given as goal

-- what is left to undo leads to the same end
abbrev pub invariant-loop-self : goal.invariant-loop-self
invariant-loop-self l = record {
  globals : all_undone l.tree.globals l.self ≡ all_undone l.fn.tree.globals l.fn.self;
  pins : (n : Node) → pins_of l.tree.pins n + kept_by l.fn.self n ≡ pins_of l.fn.tree.pins n + kept_by l.self n;
}

abbrev pub decreases-loop-self : goal.decreases-loop-self
decreases-loop-self l = length l.self
