use Rattle.std.proofs.Common.{◌≡◌, ◌++◌, drop}
use Rattle.obj_shape.specs.Slots.{slots_of}
use Rattle.obj_shape.proofs.slots.slots_of.Given as goal

-- the slots so far, and those of the properties that are left
abbrev pub invariant-loop-prop : goal.invariant-loop-prop
invariant-loop-prop l = l.slots ++ slots_of (drop l.prop-index l.props) l.rest ≡ slots_of l.props l.fn.fields
