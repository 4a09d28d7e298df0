use Rattle.std.proofs.Common.{◌≡◌, IfOk, subst}
use Rattle.oref_table.specs.Refs.{refs_in, refs_of}
use Rattle.oref_table.specs.Places.{item_put, IsExchange}
use Rattle.oref_table.proofs.PlaceLaws.{put_as}
use Rattle.oref_table.proofs.PlaceLaws.{not_ok}
use Rattle.oref_table.proofs.places.put_filling.Goals as goal

pub returns-in-Ok-clause-ok : goal.returns-in-Ok-clause-ok
returns-in-Ok-clause-ok c =
    put_as c.args.at c.args.with c.slot_of.result c.args.items c.put_item-items.result.0 c.in-Ok.old c.slot_of.ensures
    (subst (λ r. IfOk r (λ old. (c.put_item-items.result.0 ≡ item_put c.args.at c.slot_of.result c.args.items) × IsExchange (refs_in c.args.items) (refs_of c.slot_of.result) (refs_in c.put_item-items.result.0) (refs_of old))) c.in-Ok.is c.put_item-items.ensures.ok)

pub returns-in-Err-clause-there : goal.returns-in-Err-clause-there
returns-in-Err-clause-there c = λ within. absurd (not_ok c.put_item-items.result.1 c.in-Err.slot c.in-Err.is (c.put_item-items.ensures.there within))
