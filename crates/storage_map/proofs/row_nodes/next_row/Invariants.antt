use Rattle.std.proofs.Common.{◌≡◌, length}
use Rattle.record_layout.specs.Rows.{rows_in}
use Rattle.storage_map.proofs.row_nodes.next_row.Given as goal

-- no field of the row was passed
abbrev pub invariant-loop-field : goal.invariant-loop-field
invariant-loop-field l = rows_in l.rest ≡ rows_in l.fields

abbrev pub decreases-loop-field : goal.decreases-loop-field
decreases-loop-field l = length l.rest
