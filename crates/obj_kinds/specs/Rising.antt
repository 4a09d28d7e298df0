-- Nodes each behind the one before it.
use Rattle.std.specs.Prelude.{Bool, true, ◌&&◌, List, [], ◌∷◌}
use Rattle.std.specs.Ordering.{is_lt}
use Rattle.obj_kinds.specs.declared.node.Node.{Node}
use Rattle.obj_kinds.specs.declared.value.Value.{Value}
use Rattle.obj_kinds.specs.Order.{node_cmp}

-- whether each stands behind the one before it, and the first behind a node
abbrev pub is_chain : Node → List (Node × Value) → Bool
is_chain last [] = true
is_chain last (e ∷ es) = is_lt (node_cmp last e.0) && is_chain e.0 es
