use Rattle.std.proofs.Common.{◌≡◌, drop}
use Rattle.obj_validity.specs.Faults.{arrays_fit}
use Rattle.obj_validity.proofs.row.arrays_fit.Given as goal

-- those so far fit
abbrev pub invariant-loop-prop : goal.invariant-loop-prop
invariant-loop-prop l = arrays_fit l.of.schema.now l.of.table.now (drop l.prop-index l.props) l.rest ≡ arrays_fit l.of.schema.now l.of.table.now l.props l.fn.slots
