use Rattle.std.proofs.Common.{sym, ◌∙◌}
use Rattle.oref_table.specs.declared.slot.Slot.TheVariants.{Members}
use Rattle.oref_cases.proofs.PlaceLaws.{member_goes, live_at}
use Rattle.oref_cases.proofs.collections.is_member.Goals as goal

pub returns-in-Some-clause-member : goal.returns-in-Some-clause-member
returns-in-Some-clause-member c = λ e. member_goes c.args.table.now c.args.spot.oref.0 c.args.spot.slot c.args.member.0 c.in-Some.members.now c.in-Some.ensures (sym c.has_member.ensures ∙ e)

pub returns-in-Some-clause-live : goal.returns-in-Some-clause-live
returns-in-Some-clause-live c = λ e. live_at c.args.table.now c.args.spot.oref.0 c.args.spot.slot (Members c.in-Some.members.now) c.in-Some.ensures
