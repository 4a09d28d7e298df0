use Rattle.std.proofs.Common.{◌+◌, ◌*◌, drop}
use Rattle.oref_table.specs.declared.slot.Slot.TheViews.{out-Slot}
use Rattle.record_layout.specs.Inverse.{AreGood, EachGood}
use Rattle.obj_shape.specs.Fitting.{IsElement, IsSlotOf}
use Rattle.part_copies.specs.Copies.{copy_elements, copy_fields, copy_part}
use Rattle.part_copies.proofs.MadeLaws.{IsAmid}
use Rattle.part_copies.proofs.copies.+copies.Given as goal

-- a part has one level of parts less, and the calls between two levels have ranks
abbrev pub decreases-copy_fields : goal.decreases-copy_fields
decreases-copy_fields l = 8 * l.depth + 7

abbrev pub decreases-copy_kind : goal.decreases-copy_kind
decreases-copy_kind l = 8 * l.depth + 6

abbrev pub decreases-copy_list : goal.decreases-copy_list
decreases-copy_list l = 8 * l.depth + 5

abbrev pub decreases-copy_elements : goal.decreases-copy_elements
decreases-copy_elements l = 8 * l.depth + 4

abbrev pub decreases-copy_element : goal.decreases-copy_element
decreases-copy_element l = 8 * l.depth + 3

abbrev pub decreases-copy_part_at : goal.decreases-copy_part_at
decreases-copy_part_at l = 8 * l.depth + 2

abbrev pub decreases-copy_part : goal.decreases-copy_part
decreases-copy_part l = 8 * l.depth + 1

abbrev pub decreases-copied_slots : goal.decreases-copied_slots
decreases-copied_slots l = 8 * l.depth

-- those so far are copied, and what is left is copied behind them
abbrev pub invariant-copy_elements-loop-slot : goal.invariant-copy_elements-loop-slot
invariant-copy_elements-loop-slot l = record {
  amid : IsAmid l.initial.made l.made
      (copy_elements l.from.table.now (copy_part l.depth l.from.schema.now l.from.table.now l.from.level) l.item l.slots l.initial.made.last)
      (copy_elements l.from.table.now (copy_part l.depth l.from.schema.now l.from.table.now l.from.level) l.item (drop l.slot-index l.slots) l.made.last)
      l.copy;
  fits : EachGood (λ s. IsElement l.from.schema.now l.from.table.now l.item (out-Slot s)) (drop l.slot-index l.slots);
}

abbrev pub invariant-copy_fields-loop-prop : goal.invariant-copy_fields-loop-prop
invariant-copy_fields-loop-prop l = record {
  amid : IsAmid l.initial.made l.made
      (copy_fields l.from.table.now (copy_part l.depth l.from.schema.now l.from.table.now l.from.level) l.props l.fn.slots l.initial.made.last)
      (copy_fields l.from.table.now (copy_part l.depth l.from.schema.now l.from.table.now l.from.level) (drop l.prop-index l.props) l.rest l.made.last)
      l.copy;
  fits : AreGood (IsSlotOf l.from.schema.now l.from.table.now) (drop l.prop-index l.props) l.rest;
}
