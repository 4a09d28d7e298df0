use Rattle.std.proofs.Common.{◌≡◌, ◌+◌, ◌≤◌, length, vec_len, vec_capacity}
use Rattle.std.specs.Vec.Iter.{into_iter_items}
use Rattle.obj_kinds.specs.declared.node.Node.{Node}
use Rattle.tran_log.specs.Levels.{noted, has, pins_of, times}
use Rattle.tran_log.specs.Kept.{level_of, IsRising}
use Rattle.tran_log.proofs.kept.note_all.Given as goal

-- what is left is noted with the same end
abbrev pub invariant-loop-old : goal.invariant-loop-old
invariant-loop-old l = record {
  rising : IsRising l.kept;
  room : vec_len l.kept + length (into_iter_items l.old-iterator) ≤ vec_capacity l.kept;
  level : noted (level_of l.kept) (into_iter_items l.old-iterator) ≡ noted (level_of l.fn.kept) l.fn.olds.items;
  globals : l.tree.globals ≡ l.fn.tree.globals;
  pins : (m : Node) → pins_of l.tree.pins m + has (level_of l.fn.kept) m + times l.fn.olds.items m ≡ pins_of l.fn.tree.pins m + has (level_of l.kept) m + times (into_iter_items l.old-iterator) m;
}
