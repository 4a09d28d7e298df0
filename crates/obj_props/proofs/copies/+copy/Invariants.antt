use Rattle.std.proofs.Common.{◌≡◌, take}
use Rattle.obj_props.proofs.copies.+copy.Given as goal

-- the slots so far are copied
abbrev pub invariant-copy_slots-loop-slot : goal.invariant-copy_slots-loop-slot
invariant-copy_slots-loop-slot l = l.copy ≡ take l.slot-index l.slots

-- the elements so far are copied
abbrev pub invariant-copy_pairs-loop-pair : goal.invariant-copy_pairs-loop-pair
invariant-copy_pairs-loop-pair l = l.copy ≡ take l.pair-index l.pairs
