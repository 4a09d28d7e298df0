use Rattle.std.proofs.Common.{◌≡◌, map, take}
use Rattle.obj_shape.specs.Slots.{slot_of}
use Rattle.obj_shape.proofs.slots.+slot.Given as goal

-- the slots of those so far
abbrev pub invariant-list_slots-loop-field : goal.invariant-list_slots-loop-field
invariant-list_slots-loop-field l = l.slots ≡ map slot_of (take l.field-index l.fields)

abbrev pub invariant-array_slots-loop-pair : goal.invariant-array_slots-loop-pair
invariant-array_slots-loop-pair l = l.slots ≡ map (λ p. (p.0, slot_of p.1)) (take l.pair-index l.pairs)
