-- The nodes at or below a row, which stand together.
use Rattle.std.specs.Prelude.{cond, [], ◌∷◌}
use Rattle.obj_kinds.specs.declared.node.Node.{Node}
use Rattle.obj_kinds.specs.Order.{covers}
use Rattle.world_audit.specs.Objects.{Told}

-- those at the front, up to the first that isn't at or below the row
abbrev pub front_run : Node → Told → Told
front_run row [] = []
front_run row (e ∷ es) = cond (covers row e.0) (e ∷ front_run row es) []
