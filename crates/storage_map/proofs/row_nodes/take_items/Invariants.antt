use Rattle.std.proofs.Common.{◌≡◌, ◌++◌, map, take, drop, length}
use Rattle.record_layout.specs.Items.{item}
use Rattle.record_layout.specs.Rows.{rows_in}
use Rattle.storage_map.proofs.row_nodes.take_items.Given as goal

-- the items so far and those that are left, and the fields behind them
abbrev pub invariant-loop-left : goal.invariant-loop-left
invariant-loop-left l =
    (l.items ++ map item (take l.left (rows_in l.rest)) ≡ l.initial.items ++ map item (take l.count (rows_in l.fields)))
    × (drop l.left (rows_in l.rest) ≡ drop l.count (rows_in l.fields))

abbrev pub decreases-loop-left : goal.decreases-loop-left
decreases-loop-left l = l.left
