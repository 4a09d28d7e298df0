use Rattle.std.proofs.Common.{◌≡◌, ◌+◌, ◌*◌, length}
use Rattle.object_members.specs.Parts.{props_parts}
use Rattle.save_set.specs.Marking.{any_part_marked, items_parts, pairs_parts}
use Rattle.save_set.proofs.modified.+marked.Given as goal

-- a part has one level of parts less, and the calls between two levels have ranks
abbrev pub decreases-any_prop : goal.decreases-any_prop
decreases-any_prop l = 7 * l.depth + 6

abbrev pub decreases-prop_is_marked : goal.decreases-prop_is_marked
decreases-prop_is_marked l = 7 * l.depth + 5

abbrev pub decreases-any_item : goal.decreases-any_item
decreases-any_item l = 7 * l.depth + 4

abbrev pub decreases-any_pair : goal.decreases-any_pair
decreases-any_pair l = 7 * l.depth + 4

abbrev pub decreases-element_is_marked : goal.decreases-element_is_marked
decreases-element_is_marked l = 7 * l.depth + 3

abbrev pub decreases-slot_is_marked : goal.decreases-slot_is_marked
decreases-slot_is_marked l = 7 * l.depth + 2

abbrev pub decreases-is_marked : goal.decreases-is_marked
decreases-is_marked l = 7 * l.depth + 1

-- no part that is marked was passed
abbrev pub invariant-any_item-loop-slot : goal.invariant-any_item-loop-slot
invariant-any_item-loop-slot l =
    any_part_marked l.of.schema.now l.of.table.now l.depth (items_parts l.item l.rest) ≡ any_part_marked l.of.schema.now l.of.table.now l.depth (items_parts l.item l.slots)

abbrev pub decreases-any_item-loop-slot : goal.decreases-any_item-loop-slot
decreases-any_item-loop-slot l = length l.rest

abbrev pub invariant-any_pair-loop-pair : goal.invariant-any_pair-loop-pair
invariant-any_pair-loop-pair l =
    any_part_marked l.of.schema.now l.of.table.now l.depth (pairs_parts l.item l.rest) ≡ any_part_marked l.of.schema.now l.of.table.now l.depth (pairs_parts l.item l.pairs)

abbrev pub decreases-any_pair-loop-pair : goal.decreases-any_pair-loop-pair
decreases-any_pair-loop-pair l = length l.rest

abbrev pub invariant-any_prop-loop-slot : goal.invariant-any_prop-loop-slot
invariant-any_prop-loop-slot l =
    any_part_marked l.of.schema.now l.of.table.now l.depth (props_parts l.wanted l.rest) ≡ any_part_marked l.of.schema.now l.of.table.now l.depth (props_parts l.props l.slots)

abbrev pub decreases-any_prop-loop-slot : goal.decreases-any_prop-loop-slot
decreases-any_prop-loop-slot l = length l.rest
