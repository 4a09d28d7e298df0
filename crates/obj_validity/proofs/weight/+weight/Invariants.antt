use Rattle.std.proofs.Common.{◌≡◌, ◌+◌, ◌*◌, length, map, []}
use Rattle.oref_table.specs.declared.slot.Slot.TheViews.{out-Slot}
use Rattle.obj_shape.specs.Records.{element_field, fields_by, part_fields}
use Rattle.obj_validity.specs.Weights.{room_after, share, total}
use Rattle.obj_validity.proofs.weight.+weight.Given as goal

-- a part has one level of parts less, and the calls between two levels have ranks
abbrev pub decreases-fields_room : goal.decreases-fields_room
decreases-fields_room l = 7 * l.depth + 6

abbrev pub decreases-field_room : goal.decreases-field_room
decreases-field_room l = 7 * l.depth + 5

abbrev pub decreases-list_room : goal.decreases-list_room
decreases-list_room l = 7 * l.depth + 4

abbrev pub decreases-items_room : goal.decreases-items_room
decreases-items_room l = 7 * l.depth + 3

abbrev pub decreases-element_room : goal.decreases-element_room
decreases-element_room l = 7 * l.depth + 2

abbrev pub decreases-part_room : goal.decreases-part_room
decreases-part_room l = 7 * l.depth + 1

abbrev pub decreases-slots_room : goal.decreases-slots_room
decreases-slots_room l = 7 * l.depth

abbrev pub decreases-items_room-loop-slot : goal.decreases-items_room-loop-slot
decreases-items_room-loop-slot l = length l.rest

-- the items that are left in what is left of the room
abbrev pub invariant-items_room-loop-slot : goal.invariant-items_room-loop-slot
invariant-items_room-loop-slot l =
    room_after l.left (total (map (λ t. share (element_field l.of.table.now [] (part_fields l.depth l.of.schema.now l.of.table.now []) l.item (out-Slot t))) l.rest))
    ≡ room_after l.room (total (map (λ t. share (element_field l.of.table.now [] (part_fields l.depth l.of.schema.now l.of.table.now []) l.item (out-Slot t))) l.slots))

abbrev pub invariant-fields_room-loop-slot : goal.invariant-fields_room-loop-slot
invariant-fields_room-loop-slot l =
    room_after l.left (total (map share (fields_by l.of.table.now [] (part_fields l.depth l.of.schema.now l.of.table.now []) l.wanted l.rest)))
    ≡ room_after l.room (total (map share (fields_by l.of.table.now [] (part_fields l.depth l.of.schema.now l.of.table.now []) l.props l.slots)))

abbrev pub decreases-fields_room-loop-slot : goal.decreases-fields_room-loop-slot
decreases-fields_room-loop-slot l = length l.rest
