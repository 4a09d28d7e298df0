-- The ancestors of a node.
use Rattle.std.specs.Prelude.{ℕ, take}
use Rattle.obj_kinds.specs.declared.node.Node.{Node}

-- the node, or its ancestor with so many subscripts
abbrev pub ancestor : ℕ → Node → Node
ancestor k n = record { global = n.global; subs = take k n.subs }
