-- What a tree holds: the values of its nodes, and how often each place is pinned.
use Rattle.std.specs.Prelude.{ℕ, ◌+◌, ◌-◌, ◌==◌, cond, ◌&&◌, Option, None, Some, unwrap_or}
use Rattle.std.specs.FinMap.{FinMap, get, contains_key}
use Rattle.obj_kinds.specs.declared.node.Node.{Node}
use Rattle.obj_kinds.specs.declared.value.Value.{Value}
use Rattle.obj_kinds.specs.Order.{node_cmp, covers}
use Rattle.global_tree.specs.Maps.{placed}

abbrev pub Globals : Type 0
Globals = FinMap node_cmp Value

-- a place that isn't pinned isn't in the map
abbrev pub Pins : Type 0
Pins = FinMap node_cmp ℕ

pub record Contents : Type 0 where
  pub globals : Globals
  pub pins : Pins

-- how often the place of a node is pinned
unfoldable pub pins_of : Pins → Node → ℕ
pins_of pins n = unwrap_or (get pins n) 0

-- a count that a map keeps: none for 0
unfoldable pub counted : ℕ → Option ℕ
counted n = cond (n == 0) None (Some n)

-- with one pin more at the node
unfoldable pub pinned : Pins → Node → Pins
pinned pins n = placed pins n (Some (pins_of pins n + 1))

-- with one pin less at the node
unfoldable pub unpinned : Pins → Node → Pins
unpinned pins n = placed pins n (counted (pins_of pins n - 1))

-- one pin for the value of m, where it is taken with n
unfoldable pub taken_at : Globals → Node → Node → ℕ
taken_at g n m = cond (covers n m && contains_key g m) 1 0
