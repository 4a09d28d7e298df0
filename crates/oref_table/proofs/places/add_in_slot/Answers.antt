use Rattle.std.proofs.Common.{◌≡◌, ◌++◌, ◌∷◌, [], IfOk, subst}
use Rattle.oref_table.proofs.PlaceLaws.{member_added}
use Rattle.oref_table.proofs.places.add_in_slot.Goals as goal

pub returns-in-Ok-clause-ok : goal.returns-in-Ok-clause-ok
returns-in-Ok-clause-ok c =
    member_added c.args.held.number c.args.old c.in-Members.members c.add_member-members.result.0 c.in-Members.is
    (subst (λ r. IfOk r (λ _. c.add_member-members.result.0 ≡ c.in-Members.members ++ record { 0 = c.args.held.number } ∷ [])) c.in-Ok.is c.add_member-members.ensures.ok)
