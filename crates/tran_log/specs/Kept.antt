-- What the vectors of a log are seen as.
use Rattle.std.specs.Prelude.{ℕ, ◌<◌, ◌≤◌, List, map, reverse, length, slice_index_or, Option, IsTrue}
use Rattle.std.specs.Global.{Vec}
use Rattle.std.specs.FinMap.{from_sorted, is_sorted}
use Rattle.obj_kinds.specs.declared.node.Node.{Node}
use Rattle.obj_kinds.specs.declared.value.Value.{Value}
use Rattle.obj_kinds.specs.Order.{node_cmp}
use Rattle.tran_log.specs.Levels.{Level, Levels}

abbrev pub Kept : Type 0
Kept = Vec (Node × Option Value)

abbrev pub level_of : Kept → Level
level_of k = from_sorted k.items

abbrev pub IsRising : Kept → Type 0
IsRising k = IsTrue (is_sorted node_cmp k.items)

-- the top level stands last
abbrev pub levels_of : List Kept → Levels
levels_of ks = reverse (map level_of ks)

-- what is true of the vectors of a log
pub record IsLog (ks : List Kept) : Type 0 where
  pub rising : (i : ℕ) (d : Kept) → i < length ks → let k = slice_index_or ks i d in IsRising k
  pub few : length ks ≤ 255
