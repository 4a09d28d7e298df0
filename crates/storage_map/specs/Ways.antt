-- Values on ways below a node.
use Rattle.std.specs.Prelude.{List, map}
use Rattle.obj_kinds.specs.declared.node.Node.{Node}
use Rattle.obj_kinds.specs.declared.sub.Sub.{Sub}
use Rattle.obj_kinds.specs.declared.value.Value.{Value}
use Rattle.record_layout.specs.Rows.{below}

abbrev pub placed_below : Node → List (List Sub × Value) → List (Node × Value)
placed_below row ways = map (λ e. (below row e.0, e.1)) ways
