use Rattle.std.proofs.Common.{length}
use Rattle.std.proofs.lemmas.Bool.{leb-true}
use Rattle.oref_table.specs.declared.slot.Slot.TheVariants.{Items}
use Rattle.oref_cases.proofs.PlaceLaws.{item_may, before_may, live_at}
use Rattle.oref_cases.proofs.collections.takes_item.Goals as goal

pub returns-in-Some-clause-put : goal.returns-in-Some-clause-put
returns-in-Some-clause-put c = λ e h. item_may c.args.table.now c.args.spot.oref.0 c.args.spot.slot c.args.at c.in-Some.items.now h c.in-Some.ensures (leb-true c.args.at (length c.in-Some.items.now) e)

pub returns-in-Some-clause-before : goal.returns-in-Some-clause-before
returns-in-Some-clause-before c = λ e. before_may c.args.table.now c.args.spot.oref.0 c.args.spot.slot c.args.at c.in-Some.items.now c.in-Some.ensures (leb-true c.args.at (length c.in-Some.items.now) e)

pub returns-in-Some-clause-live : goal.returns-in-Some-clause-live
returns-in-Some-clause-live c = λ e. live_at c.args.table.now c.args.spot.oref.0 c.args.spot.slot (Items c.in-Some.items.now) c.in-Some.ensures
