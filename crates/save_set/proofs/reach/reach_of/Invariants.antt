use Rattle.std.proofs.Common.{◌+◌, length}
use Rattle.object_members.specs.Seeing.{numbers_of}
use Rattle.save_set.specs.Marking.{found_in, refs_at}
use Rattle.save_set.proofs.Marks.{unfound}
use Rattle.save_set.proofs.Walking.{Worked}
use Rattle.save_set.proofs.reach.reach_of.Given as goal

abbrev pub invariant-loop-number : goal.invariant-loop-number
invariant-loop-number l = Worked (refs_at l.table) l.fn.root.0 (found_in l.reach)

-- each turn takes an object away, and puts there only what it finds
abbrev pub decreases-loop-number : goal.decreases-loop-number
decreases-loop-number l = unfound l.reach.marks.keys (numbers_of l.table) + length l.reach.ahead
