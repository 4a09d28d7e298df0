use Rattle.std.proofs.Common.{◌≡◌, IsOk, List}
use Rattle.obj_kinds.specs.declared.sub.Sub.{Sub}
use Rattle.oref_table.specs.declared.oref.Oref.{Oref}
use Rattle.oref_table.specs.declared.slot.Slot.{Slot}
use Rattle.oref_table.specs.declared.slot.Slot.TheVariants.{Items, Map, Members}
use Rattle.oref_table.specs.Refs.{refs_of}
use Rattle.oref_table.specs.Filling.{passed}
use Rattle.oref_table.specs.Places.{items_filled, pairs_filled, with_members, PartFills, IsExchange}
use Rattle.oref_table.proofs.PlaceLaws.{ok_then, part_items, part_pairs, part_members, slot_fills, items_fill, pairs_fill, members_fill}
use Rattle.oref_table.proofs.PlaceLaws.{items_there, no_member_there, pairs_there}
use Rattle.oref_table.proofs.places.fill_part.Goals as goal

pub fill_list-requires : goal.fill_list-requires
fill_list-requires c = part_items c.args.at.now c.in-Item.field-0 c.in-Item.item c.args.with c.args.old c.in-Item.is c.requires

pub fill_map-requires : goal.fill_map-requires
fill_map-requires c = part_pairs c.args.at.now c.in-Pair.field-0 c.in-Pair.key c.args.with c.args.old c.in-Pair.is c.requires

pub fill_members-requires : goal.fill_members-requires
fill_members-requires c = part_members c.args.at.now c.in-Member.field-0 c.args.with c.args.old c.in-Member.is c.requires

pub returns-in-Slot-clause-ok : goal.returns-in-Slot-clause-ok
returns-in-Slot-clause-ok c = slot_fills c.args.at.now c.in-Slot.field-0 c.args.with c.args.old c.slot_of.result c.in-Slot.is c.slot_of.ensures

pub returns-in-Item-clause-ok : goal.returns-in-Item-clause-ok
returns-in-Item-clause-ok c =
    ok_then (λ out. ((items : List Slot) × (c.args.old ≡ Items items) × (c.fill_list.result.0 ≡ Items (items_filled c.in-Item.item c.args.with items))) × IsExchange (refs_of c.args.old) (passed c.args.with) (refs_of c.fill_list.result.0) (refs_of out))
    (λ out. PartFills c.args.at.now c.args.with c.args.old c.fill_list.result.0 × IsExchange (refs_of c.args.old) (passed c.args.with) (refs_of c.fill_list.result.0) (refs_of out))
    c.fill_list.result.1 (λ out h. (items_fill c.args.at.now c.in-Item.field-0 c.in-Item.item c.args.with c.args.old c.fill_list.result.0 c.in-Item.is h.0, h.1)) c.fill_list.ensures.ok

pub returns-in-Pair-clause-ok : goal.returns-in-Pair-clause-ok
returns-in-Pair-clause-ok c =
    ok_then (λ out. ((pairs : List (Sub × Slot)) × (c.args.old ≡ Map pairs) × (c.fill_map.result.0 ≡ Map (pairs_filled c.in-Pair.key c.args.with pairs))) × IsExchange (refs_of c.args.old) (passed c.args.with) (refs_of c.fill_map.result.0) (refs_of out))
    (λ out. PartFills c.args.at.now c.args.with c.args.old c.fill_map.result.0 × IsExchange (refs_of c.args.old) (passed c.args.with) (refs_of c.fill_map.result.0) (refs_of out))
    c.fill_map.result.1 (λ out h. (pairs_fill c.args.at.now c.in-Pair.field-0 c.in-Pair.key c.args.with c.args.old c.fill_map.result.0 c.in-Pair.is h.0, h.1)) c.fill_map.ensures.ok

pub returns-in-Member-clause-ok : goal.returns-in-Member-clause-ok
returns-in-Member-clause-ok c =
    ok_then (λ out. ((members : List Oref) × (c.args.old ≡ Members members) × (c.fill_members.result.0 ≡ Members (with_members c.args.with members))) × IsExchange (refs_of c.args.old) (passed c.args.with) (refs_of c.fill_members.result.0) (refs_of out))
    (λ out. PartFills c.args.at.now c.args.with c.args.old c.fill_members.result.0 × IsExchange (refs_of c.args.old) (passed c.args.with) (refs_of c.fill_members.result.0) (refs_of out))
    c.fill_members.result.1 (λ out h. (members_fill c.args.at.now c.in-Member.field-0 c.args.with c.args.old c.fill_members.result.0 c.in-Member.is h.0, h.1)) c.fill_members.ensures.ok

pub returns-in-Item-clause-there : goal.returns-in-Item-clause-there
returns-in-Item-clause-there c = λ there. items_there c.args.at.now c.in-Item.field-0 c.in-Item.item c.args.old (IsOk c.fill_list.result.1) c.in-Item.is c.fill_list.ensures.there there

pub returns-in-Pair-clause-there : goal.returns-in-Pair-clause-there
returns-in-Pair-clause-there c = λ there. pairs_there c.args.at.now c.in-Pair.field-0 c.in-Pair.key c.args.old (IsOk c.fill_map.result.1) c.in-Pair.is c.fill_map.ensures.there there

pub returns-in-Member-clause-there : goal.returns-in-Member-clause-there
returns-in-Member-clause-there c = λ there. absurd (no_member_there c.args.at.now c.in-Member.field-0 c.args.old c.in-Member.is there)
