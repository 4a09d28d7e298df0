use Rattle.std.proofs.Common.{◌≡◌, ◌+◌, map, length}
use Rattle.os_meaning.specs.Tree.{claim_of}
use Rattle.os_compile.specs.Pieces.{until_renewal}
use Rattle.os_compile.proofs.locks.count_until_renewal.Given as goal

abbrev pub decreases-loop-claim : goal.decreases-loop-claim
decreases-loop-claim l = length l.rest

abbrev pub invariant-loop-claim : goal.invariant-loop-claim
invariant-loop-claim l =
    (l.count + until_renewal (map claim_of l.rest) ≡ until_renewal (map claim_of l.claims)) × (l.count + length l.rest ≡ length l.claims)
