use Rattle.std.proofs.Common.{◌≡◌}
use Rattle.oref_table.specs.Refs.{refs_in, refs_of}
use Rattle.oref_table.specs.Filling.{passed}
use Rattle.oref_table.specs.Places.{PartFills, Fills, IsExchange}
use Rattle.oref_table.proofs.PlaceLaws.{ok_then, err_then, slots_filled, slots_back}
use Rattle.oref_table.proofs.PlaceLaws.{slots_there}
use Rattle.oref_table.proofs.places.fill_slots.Goals as goal

pub returns-clause-ok : goal.returns-clause-ok
returns-clause-ok c =
    ok_then (λ out. PartFills c.args.at.now c.args.with c.replace-old.result c.fill_part-part.result.0 × IsExchange (refs_of c.replace-old.result) (passed c.args.with) (refs_of c.fill_part-part.result.0) (refs_of out))
    (λ out. Fills c.args.at.now c.args.with c.args.slots.now c.set.new.self × IsExchange (refs_in c.args.slots.now) (passed c.args.with) (refs_in c.set.new.self) (refs_of out))
    c.fill_part-part.result.1
    (λ out h. slots_filled c.args.at.now c.args.with c.args.slots.now c.replace-old.new.self c.set.new.self c.slot_number-slot.result c.replace-old.result c.fill_part-part.result.0 out c.slot_number-slot.ensures c.replace-old.ensures.item c.replace-old.ensures.rest c.set.ensures h)
    c.fill_part-part.ensures.ok

pub returns-clause-err : goal.returns-clause-err
returns-clause-err c =
    err_then (λ back. (back ≡ c.args.with) × (c.fill_part-part.result.0 ≡ c.replace-old.result)) (λ back. (back ≡ c.args.with) × (c.set.new.self ≡ c.args.slots.now)) c.fill_part-part.result.1
    (λ back h. (h.0, slots_back c.args.slots.now c.replace-old.new.self c.set.new.self c.slot_number-slot.result c.replace-old.result c.fill_part-part.result.0 c.replace-old.ensures.item c.replace-old.ensures.rest c.set.ensures h.1))
    c.fill_part-part.ensures.err

pub returns-clause-there : goal.returns-clause-there
returns-clause-there c = λ among. c.fill_part-part.ensures.there (slots_there c.args.at.now c.args.slots.now c.slot_number-slot.result c.replace-old.result c.slot_number-slot.ensures c.replace-old.ensures.item among)
