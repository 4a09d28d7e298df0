-- Globals after some sets, one after the other.
use Rattle.std.specs.Prelude.{ℕ, ◌≤◌, List, [], ◌∷◌}
use Rattle.std.specs.FinMap.{insert}
use Rattle.obj_kinds.specs.declared.node.Node.{Node}
use Rattle.obj_kinds.specs.declared.value.Value.{Value}
use Rattle.global_tree.specs.Contents.{Pins, pins_of}
use Rattle.first_path.specs.Image.{Globals}

abbrev pub after_sets : Globals → List (Node × Value) → Globals
after_sets g [] = g
after_sets g (e ∷ es) = after_sets (insert g e.0 e.1) es

-- no place is pinned more often
abbrev pub PinnedAtMost : ℕ → Pins → Type 0
PinnedAtMost n pins = (node : Node) → pins_of pins node ≤ n
