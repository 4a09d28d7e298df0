-- The first subscript below a node, in places of which the descendants of the node come first.
use Rattle.std.specs.Prelude.{List, [], ◌∷◌, Option, Some, None}
use Rattle.obj_kinds.specs.declared.sub.Sub.{Sub}
use Rattle.obj_kinds.specs.declared.node.Node.{Node}
use Rattle.obj_kinds.specs.declared.value.Value.{Value}
use Rattle.global_tree.specs.declared.place.Place.{Place}
use Rattle.global_tree.specs.Below.{step_below}

abbrev pub step_or : Option Sub → Option Value → Option Sub → Option Sub
step_or None v rest = None
step_or (Some s) None rest = rest
step_or (Some s) (Some v) rest = Some s

abbrev pub first_step : Node → List (Node × Place) → Option Sub
first_step n [] = None
first_step n (e ∷ es) = step_or (step_below n e.0) e.1.value (first_step n es)
