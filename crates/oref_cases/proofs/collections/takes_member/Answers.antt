use Rattle.std.proofs.Common.{sym, ◌∙◌}
use Rattle.std.proofs.lemmas.Bool.{not-true}
use Rattle.oref_cases.proofs.PlaceLaws.{member_may}
use Rattle.oref_cases.proofs.collections.takes_member.Goals as goal

pub returns-in-Some : goal.returns-in-Some
returns-in-Some c = λ e h k. member_may c.args.table.now c.args.spot.oref.0 c.args.spot.slot c.args.member.0 c.in-Some.members.now h c.in-Some.ensures (sym c.has_member.ensures ∙ not-true c.has_member.result e) k
