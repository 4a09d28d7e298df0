use Rattle.std.proofs.Common.{◌≡◌, ◌++◌, reverse, length}
use Rattle.record_reading.proofs.merge.turned.Given as goal

-- the items so far, and those that are left
abbrev pub invariant-loop-item : goal.invariant-loop-item
invariant-loop-item g l = l.turned ++ reverse l.rest ≡ reverse l.fn.items

abbrev pub decreases-loop-item : goal.decreases-loop-item
decreases-loop-item g l = length l.rest
