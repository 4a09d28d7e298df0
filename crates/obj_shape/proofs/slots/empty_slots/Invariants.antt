use Rattle.std.proofs.Common.{◌≡◌, take}
use Rattle.obj_shape.specs.Slots.{empty_slots}
use Rattle.obj_shape.proofs.slots.empty_slots.Given as goal

-- the slots of those so far
abbrev pub invariant-loop-prop : goal.invariant-loop-prop
invariant-loop-prop l = l.slots ≡ empty_slots (take l.prop-index l.props)
