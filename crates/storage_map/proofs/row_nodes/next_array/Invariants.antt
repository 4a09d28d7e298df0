use Rattle.std.proofs.Common.{◌≡◌, length}
use Rattle.record_layout.specs.Rows.{maps_in}
use Rattle.storage_map.proofs.row_nodes.next_array.Given as goal

-- no array was passed
abbrev pub invariant-loop-field : goal.invariant-loop-field
invariant-loop-field l = maps_in l.rest ≡ maps_in l.fields

abbrev pub decreases-loop-field : goal.decreases-loop-field
decreases-loop-field l = length l.rest
