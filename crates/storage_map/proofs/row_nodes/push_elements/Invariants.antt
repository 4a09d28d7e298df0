use Rattle.std.proofs.Common.{◌≡◌, ◌++◌, take}
use Rattle.record_layout.specs.Rows.{element_nodes}
use Rattle.storage_map.specs.Ways.{placed_below}
use Rattle.storage_map.proofs.row_nodes.push_elements.Given as goal

-- the elements so far
abbrev pub invariant-loop-pair : goal.invariant-loop-pair
invariant-loop-pair l = l.nodes ≡ l.initial.nodes ++ placed_below l.row (element_nodes l.name (take l.pair-index l.pairs))
