use Rattle.std.proofs.Common.{◌≡◌, drop}
use Rattle.obj_validity.specs.Faults.{part_fault, place_fault}
use Rattle.obj_validity.proofs.validity.place_fault.Given as goal

-- those so far are in order
abbrev pub invariant-loop-prop : goal.invariant-loop-prop
invariant-loop-prop l =
    (l.place ≡ l.prop-index)
    × (place_fault l.at.of.table.now (part_fault 4 l.at.of.schema.now l.at.of.table.now) l.at.indexes.now l.place (drop l.prop-index l.props) l.rest
    ≡ place_fault l.at.of.table.now (part_fault 4 l.at.of.schema.now l.at.of.table.now) l.at.indexes.now 0 l.props l.fn.slots)
