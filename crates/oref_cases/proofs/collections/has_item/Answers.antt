use Rattle.std.proofs.Common.{length}
use Rattle.std.proofs.lemmas.Bool.{ltb-true}
use Rattle.oref_cases.proofs.PlaceLaws.{item_goes}
use Rattle.oref_cases.proofs.collections.has_item.Goals as goal

pub returns-in-Some : goal.returns-in-Some
returns-in-Some c = λ e. item_goes c.args.table.now c.args.spot.oref.0 c.args.spot.slot c.args.at c.in-Some.items.now c.in-Some.ensures (ltb-true c.args.at (length c.in-Some.items.now) e)
