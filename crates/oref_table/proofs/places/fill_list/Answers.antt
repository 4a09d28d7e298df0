use Rattle.std.proofs.Common.{◌≡◌, ◌<◌, List, length, subst}
use Rattle.oref_table.specs.declared.slot.Slot.{Slot}
use Rattle.oref_table.specs.declared.slot.Slot.TheVariants.{Items}
use Rattle.oref_table.specs.Refs.{refs_in, refs_of}
use Rattle.oref_table.specs.Filling.{passed}
use Rattle.oref_table.specs.Places.{items_filled, IsExchange}
use Rattle.oref_table.proofs.PlaceLaws.{ok_then, list_filled}
use Rattle.oref_table.proofs.PlaceLaws.{same_items}
use Rattle.oref_table.proofs.places.fill_list.Goals as goal

pub returns-in-Items-clause-ok : goal.returns-in-Items-clause-ok
returns-in-Items-clause-ok c =
    ok_then (λ out. (c.fill_items-items.result.0 ≡ items_filled c.args.at c.args.with c.in-Items.items) × IsExchange (refs_in c.in-Items.items) (passed c.args.with) (refs_in c.fill_items-items.result.0) (refs_of out))
    (λ out. ((items : List Slot) × (c.args.old ≡ Items items) × (Items c.fill_items-items.result.0 ≡ Items (items_filled c.args.at c.args.with items))) × IsExchange (refs_of c.args.old) (passed c.args.with) (refs_of (Items c.fill_items-items.result.0)) (refs_of out))
    c.fill_items-items.result.1 (λ out h. list_filled c.args.at c.args.with c.args.old c.in-Items.items c.fill_items-items.result.0 out c.in-Items.is h) c.fill_items-items.ensures.ok

pub returns-in-Items-clause-there : goal.returns-in-Items-clause-there
returns-in-Items-clause-there c = λ items is within. c.fill_items-items.ensures.there (subst (λ (xs : List Slot). c.args.at < length xs) (same_items c.args.old items c.in-Items.items is c.in-Items.is) within)

pub returns-in_default-clause-there : goal.returns-in_default-clause-there
returns-in_default-clause-there c = λ items is within. absurd (c.in_default.not-Items items is)
