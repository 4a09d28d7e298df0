use Rattle.std.proofs.Common.{◌≡◌, ◌+◌, ◌*◌, ◌++◌, drop}
use Rattle.std.specs.Option.{option_map}
use Rattle.record_layout.specs.Inverse.{all_read, each_read}
use Rattle.record_layout.specs.Shapes.{single, row_forms}
use Rattle.record_layout.specs.Items.{field_in}
use Rattle.record_layout.proofs.reading.+reading.Given as goal

-- a part has one level of parts less, and the calls between two levels have ranks
abbrev pub decreases-fields_in : goal.decreases-fields_in
decreases-fields_in l = 7 * l.depth + 6

abbrev pub decreases-field_in : goal.decreases-field_in
decreases-field_in l = 7 * l.depth + 5

abbrev pub decreases-list_in : goal.decreases-list_in
decreases-list_in l = 7 * l.depth + 4

abbrev pub decreases-elements_in : goal.decreases-elements_in
decreases-elements_in l = 7 * l.depth + 3

abbrev pub decreases-element_in : goal.decreases-element_in
decreases-element_in l = 7 * l.depth + 2

abbrev pub decreases-serial_in : goal.decreases-serial_in
decreases-serial_in l = 7 * l.depth + 1

abbrev pub decreases-part_in : goal.decreases-part_in
decreases-part_in l = 7 * l.depth

-- the fields so far, and those that are still to be read
abbrev pub invariant-elements_in-loop-value : goal.invariant-elements_in-loop-value
invariant-elements_in-loop-value l =
    option_map (λ more. l.fields ++ more) (all_read (field_in l.depth l.schema (single l.item)) (drop l.value-index l.values))
    ≡ all_read (field_in l.depth l.schema (single l.item)) l.values

abbrev pub invariant-fields_in-loop-prop : goal.invariant-fields_in-loop-prop
invariant-fields_in-loop-prop l =
    option_map (λ more. l.fields ++ more) (each_read (field_in l.depth l.schema) (row_forms (drop l.prop-index l.props)) l.rest)
    ≡ each_read (field_in l.depth l.schema) (row_forms l.props) l.fn.values
