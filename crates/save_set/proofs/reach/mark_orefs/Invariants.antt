use Rattle.std.proofs.Common.{◌≡◌, drop}
use Rattle.oref_table.specs.Refs.{numbers}
use Rattle.save_set.specs.Marking.{found_in, mark_each}
use Rattle.save_set.proofs.reach.mark_orefs.Given as goal

-- with what is left to be marked it is all
abbrev pub invariant-loop-oref : goal.invariant-loop-oref
invariant-loop-oref l = mark_each (numbers (drop l.oref-index l.orefs)) (found_in l.reach) ≡ mark_each (numbers l.orefs) (found_in l.initial.reach)
