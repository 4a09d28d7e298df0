use Rattle.std.proofs.Common.{◌≡◌, map, take}
use Rattle.record_layout.specs.Items.{item}
use Rattle.record_layout.proofs.item.+item.Given as goal

-- the items of the fields so far
abbrev pub invariant-items_of-loop-field : goal.invariant-items_of-loop-field
invariant-items_of-loop-field l = l.items ≡ map item (take l.field-index l.fields)
