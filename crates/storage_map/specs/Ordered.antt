-- Pairs that are put into a map in turn, the last one first.
use Rattle.std.specs.Prelude.{List, [], ◌∷◌}
use Rattle.std.specs.BTreeMap.{insert_entry}
use Rattle.obj_kinds.specs.declared.node.Node.{Node}
use Rattle.obj_kinds.specs.declared.value.Value.{Value}
use Rattle.obj_kinds.specs.Order.{node_cmp}

abbrev pub put_all : List (Node × Value) → List (Node × Value) → List (Node × Value)
put_all map [] = map
put_all map (e ∷ es) = insert_entry node_cmp (put_all map es) e.0 e.1
