use Rattle.std.proofs.Common.{sym, ◌∙◌}
use Rattle.oref_cases.proofs.PlaceLaws.{pair_may}
use Rattle.oref_cases.proofs.collections.takes_pair.Goals as goal

pub returns-in-Some : goal.returns-in-Some
returns-in-Some c = λ e h. pair_may c.args.table.now c.args.spot.oref.0 c.args.spot.slot c.args.key.now c.in-Some.pairs.now h c.in-Some.ensures (sym c.are_in_order.ensures ∙ e)
