use Rattle.std.proofs.Common.{◌≡◌}
use Rattle.oref_table.specs.Refs.{refs_in, refs_of}
use Rattle.oref_table.specs.Filling.{slot_from, passed}
use Rattle.oref_table.specs.Places.{item_put, items_filled, IsExchange}
use Rattle.oref_table.proofs.PlaceLaws.{ok_then, item_within, item_taken, put_filled, take_filled}
use Rattle.oref_table.proofs.places.fill_items.Goals as goal

pub take_item-items-requires : goal.take_item-items-requires
take_item-items-requires c = item_taken c.args.at c.args.with c.args.items c.in-Nothing.is c.requires

pub put_filling-requires : goal.put_filling-requires
put_filling-requires c = record { within = item_within c.args.at c.args.with c.args.items c.in_default.not-Nothing c.requires; filling = c.in_default.not-Nothing }

pub returns-in-Nothing-clause-ok : goal.returns-in-Nothing-clause-ok
returns-in-Nothing-clause-ok c =
    take_filled c.args.at c.args.with c.args.items c.take_item-items.result.0 c.take_item-items.result.1 c.in-Nothing.is c.take_item-items.ensures.rest c.take_item-items.ensures.exchange

pub returns-in_default : goal.returns-in_default
returns-in_default c = record {
  ok = ok_then (λ old. (c.put_filling.result.0 ≡ item_put c.args.at (slot_from c.args.with) c.args.items) × IsExchange (refs_in c.args.items) (passed c.args.with) (refs_in c.put_filling.result.0) (refs_of old))
      (λ old. (c.put_filling.result.0 ≡ items_filled c.args.at c.args.with c.args.items) × IsExchange (refs_in c.args.items) (passed c.args.with) (refs_in c.put_filling.result.0) (refs_of old))
      c.put_filling.result.1 (λ old h. put_filled c.args.at c.args.with c.args.items c.put_filling.result.0 old c.in_default.not-Nothing h) c.put_filling.ensures.ok;
  err = c.put_filling.ensures.err;
  there = c.put_filling.ensures.there;
}
