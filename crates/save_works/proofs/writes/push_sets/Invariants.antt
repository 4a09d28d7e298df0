use Rattle.std.proofs.Common.{◌≡◌, ◌++◌, length, map}
use Rattle.save_works.specs.Works.{set_of}
use Rattle.save_works.proofs.writes.push_sets.Given as goal

-- the sets so far, and those of the pairs that are left
abbrev pub invariant-loop-pair : goal.invariant-loop-pair
invariant-loop-pair l = l.askings ++ map set_of l.rest ≡ l.initial.askings ++ map set_of l.pairs

abbrev pub decreases-loop-pair : goal.decreases-loop-pair
decreases-loop-pair l = length l.rest
