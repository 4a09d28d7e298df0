use Rattle.std.proofs.Common.{◌≡◌, ◌+◌, ◌*◌, ◌++◌, drop, map, take}
use Rattle.oref_table.specs.declared.slot.Slot.TheViews.{out-Slot}
use Rattle.obj_shape.specs.Records.{element_field, fields_by, part_fields}
use Rattle.obj_shape.proofs.record.+record.Given as goal

-- a part has one level of parts less, and the calls between two levels have ranks
abbrev pub decreases-fields_of : goal.decreases-fields_of
decreases-fields_of l = 6 * l.depth + 5

abbrev pub decreases-field_of : goal.decreases-field_of
decreases-field_of l = 6 * l.depth + 4

abbrev pub decreases-list_fields : goal.decreases-list_fields
decreases-list_fields l = 6 * l.depth + 3

abbrev pub decreases-array_fields : goal.decreases-array_fields
decreases-array_fields l = 6 * l.depth + 3

abbrev pub decreases-element_field : goal.decreases-element_field
decreases-element_field l = 6 * l.depth + 2

abbrev pub decreases-part_field : goal.decreases-part_field
decreases-part_field l = 6 * l.depth + 1

abbrev pub decreases-part_fields_of : goal.decreases-part_fields_of
decreases-part_fields_of l = 6 * l.depth

-- the fields of those so far
abbrev pub invariant-list_fields-loop-slot : goal.invariant-list_fields-loop-slot
invariant-list_fields-loop-slot l =
    l.fields ≡ map (λ t. element_field l.from.table.now l.from.drawn.now.entries (part_fields l.depth l.from.schema.now l.from.table.now l.from.drawn.now.entries) l.item (out-Slot t)) (take l.slot-index l.slots)

abbrev pub invariant-array_fields-loop-pair : goal.invariant-array_fields-loop-pair
invariant-array_fields-loop-pair l =
    l.fields ≡ map (λ p. (p.0, element_field l.from.table.now l.from.drawn.now.entries (part_fields l.depth l.from.schema.now l.from.table.now l.from.drawn.now.entries) l.item (out-Slot p.1))) (take l.pair-index l.pairs)

-- the fields so far, and those of the properties that are left
abbrev pub invariant-fields_of-loop-prop : goal.invariant-fields_of-loop-prop
invariant-fields_of-loop-prop l =
    l.fields ++ fields_by l.from.table.now l.from.drawn.now.entries (part_fields l.depth l.from.schema.now l.from.table.now l.from.drawn.now.entries) (drop l.prop-index l.props) l.rest
    ≡ fields_by l.from.table.now l.from.drawn.now.entries (part_fields l.depth l.from.schema.now l.from.table.now l.from.drawn.now.entries) l.props l.fn.slots
