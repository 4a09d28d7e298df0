use Rattle.std.proofs.Common.{sym, ◌∙◌}
use Rattle.oref_cases.proofs.PlaceLaws.{pair_goes}
use Rattle.oref_cases.proofs.collections.has_pair.Goals as goal

pub returns-then-are_in_order : goal.returns-then-are_in_order
returns-then-are_in_order c = λ e. pair_goes c.args.table.now c.args.spot.oref.0 c.args.spot.slot c.args.key.now c.in-Some.pairs.now c.in-Some.ensures (sym c.are_in_order.ensures ∙ c.if-are_in_order.true) (sym c.has_key.ensures ∙ e)
