use Rattle.std.proofs.Common.{◌≡◌, ◌+◌, ◌*◌, drop}
use Rattle.oref_table.specs.declared.slot.Slot.TheViews.{out-Slot}
use Rattle.obj_validity.specs.Faults.{element_fault, first_broken, is_indexed, part_fault, props_fault}
use Rattle.obj_validity.proofs.validity.+valid.Given as goal

-- a part has one level of parts less, and the calls between two levels have ranks
abbrev pub decreases-props_fault : goal.decreases-props_fault
decreases-props_fault l = 8 * l.depth + 7

abbrev pub decreases-prop_fault : goal.decreases-prop_fault
decreases-prop_fault l = 8 * l.depth + 6

abbrev pub decreases-kind_fault : goal.decreases-kind_fault
decreases-kind_fault l = 8 * l.depth + 5

abbrev pub decreases-pairs_fault : goal.decreases-pairs_fault
decreases-pairs_fault l = 8 * l.depth + 4

abbrev pub decreases-list_fault : goal.decreases-list_fault
decreases-list_fault l = 8 * l.depth + 3

abbrev pub decreases-array_fault : goal.decreases-array_fault
decreases-array_fault l = 8 * l.depth + 3

abbrev pub decreases-element_fault : goal.decreases-element_fault
decreases-element_fault l = 8 * l.depth + 2

abbrev pub decreases-serial_fault : goal.decreases-serial_fault
decreases-serial_fault l = 8 * l.depth + 1

abbrev pub decreases-part_fault : goal.decreases-part_fault
decreases-part_fault l = 8 * l.depth

-- those so far are in order
abbrev pub invariant-list_fault-loop-slot : goal.invariant-list_fault-loop-slot
invariant-list_fault-loop-slot l =
    first_broken (λ t. element_fault l.at.of.table.now (part_fault l.depth l.at.of.schema.now l.at.of.table.now) l.prop (is_indexed l.at.indexes.now l.prop) l.item (out-Slot t)) (drop l.slot-index l.slots)
    ≡ first_broken (λ t. element_fault l.at.of.table.now (part_fault l.depth l.at.of.schema.now l.at.of.table.now) l.prop (is_indexed l.at.indexes.now l.prop) l.item (out-Slot t)) l.slots

abbrev pub invariant-array_fault-loop-pair : goal.invariant-array_fault-loop-pair
invariant-array_fault-loop-pair l =
    first_broken (λ e. element_fault l.at.of.table.now (part_fault l.depth l.at.of.schema.now l.at.of.table.now) l.prop (is_indexed l.at.indexes.now l.prop) l.item (out-Slot e.1)) (drop l.pair-index l.pairs)
    ≡ first_broken (λ e. element_fault l.at.of.table.now (part_fault l.depth l.at.of.schema.now l.at.of.table.now) l.prop (is_indexed l.at.indexes.now l.prop) l.item (out-Slot e.1)) l.pairs

abbrev pub invariant-props_fault-loop-prop : goal.invariant-props_fault-loop-prop
invariant-props_fault-loop-prop l =
    props_fault l.of.table.now (part_fault l.depth l.of.schema.now l.of.table.now) (drop l.prop-index l.props) l.rest
    ≡ props_fault l.of.table.now (part_fault l.depth l.of.schema.now l.of.table.now) l.props l.fn.slots
