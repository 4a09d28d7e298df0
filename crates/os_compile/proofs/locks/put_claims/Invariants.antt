use Rattle.std.proofs.Common.{◌≡◌, map, reverse}
use Rattle.os_meaning.specs.Tree.{claim_of}
use Rattle.os_compile.specs.Pieces.{claims_code}
use Rattle.os_compile.proofs.locks.put_claims.Given as goal

abbrev pub invariant-loop-claim : goal.invariant-loop-claim
invariant-loop-claim l = l.out ≡ claims_code l.line l.renewed (map claim_of (map (λ b. b.now) (reverse l.yielded))) l.fn.out
