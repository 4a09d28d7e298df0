use Rattle.std.proofs.Common.{◌≡◌, ◌++◌, map, drop}
use Rattle.record_layout.specs.Layout.{arrays_of}
use Rattle.record_reading.specs.Steps.{array_seen}
use Rattle.record_reading.proofs.steps.push_arrays.Given as goal

-- the arrays so far, and those that are left
abbrev pub invariant-loop-prop : goal.invariant-loop-prop
invariant-loop-prop l = map array_seen l.arrays.items ++ arrays_of (drop l.prop-index l.props) ≡ map array_seen l.initial.arrays.items ++ arrays_of l.props
