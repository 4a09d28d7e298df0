-- The order of nodes, and which node is below which.
use Rattle.std.specs.Prelude.{Bool, ◌&&◌}
use Rattle.std.specs.declared.cmp.Ordering.{Ordering}
use Rattle.std.specs.Ordering.{ordering_then, eq_by_cmp}
use Rattle.std.specs.Cmp.Lexicographic.{slice_cmp}
use Rattle.obj_kinds.specs.declared.node.Node.{Node}
pub use Rattle.obj_kinds.specs.SubOrder.{text_cmp, sub_cmp, is_front}

-- by the global's name, and then subscript by subscript; a node stands before those below it
unfoldable pub node_cmp : Node → Node → Ordering
node_cmp a b = ordering_then (text_cmp a.global b.global) (slice_cmp sub_cmp a.subs b.subs)

-- whether m is n or a descendant of n
unfoldable pub covers : Node → Node → Bool
covers n m = eq_by_cmp text_cmp n.global m.global && is_front n.subs m.subs
