use Rattle.std.proofs.Common.{◌≡◌, [], ◌∷◌, map, reverse, sym, ap, ◌∙◌}
use Rattle.os_meaning.specs.Tree.{claim_of}
use Rattle.os_compile.specs.Pieces.{claims_code}
use Rattle.os_compile.specs.Pieces.{claim_code}
use Rattle.os_compile.proofs.Loops.{all_yielded, one_more}
use Rattle.os_compile.proofs.locks.put_claims.Goals as goal

pub returns : goal.returns
returns c =
    let all : map (λ b. b.now) (reverse c.loop-claim.yielded) ≡ c.args.claims.now = all_yielded c.args.claims.now c.loop-claim.yielded _ _ _ (cc) c.loop-claim.yielded_by c.in-None.ensures.steps in
    c.loop-claim.invariant ∙ ap (λ xs. claims_code c.args.line c.args.renewed (map claim_of (xs)) c.args.out.now) all

pub loop-claim-preserved : goal.loop-claim-preserved
loop-claim-preserved c =
    c.in_ok-put_claim.ensures
    ∙ ap (λ l. claim_code c.args.line c.args.renewed (claim_of c.in-Some.claim.now) l) c.loop-claim.invariant
    ∙ sym (ap (λ xs. claims_code c.args.line c.args.renewed xs c.args.out.now) (one_more claim_of c.loop-claim.yielded c.in-Some.claim))
