use Rattle.std.proofs.Common.{◌≡◌, drop}
use Rattle.oref_table.specs.Refs.{refs_in, refs_of_pairs}
use Rattle.save_set.specs.Marking.{found_in, mark_each}
use Rattle.save_set.proofs.reach.+mark.Given as goal

-- with what is left to be marked it is all
abbrev pub invariant-mark_slots-loop-slot : goal.invariant-mark_slots-loop-slot
invariant-mark_slots-loop-slot l = mark_each (refs_in (drop l.slot-index l.slots)) (found_in l.reach) ≡ mark_each (refs_in l.slots) (found_in l.initial.reach)

abbrev pub invariant-mark_pairs-loop-pair : goal.invariant-mark_pairs-loop-pair
invariant-mark_pairs-loop-pair l = mark_each (refs_of_pairs (drop l.pair-index l.pairs)) (found_in l.reach) ≡ mark_each (refs_of_pairs l.pairs) (found_in l.initial.reach)
