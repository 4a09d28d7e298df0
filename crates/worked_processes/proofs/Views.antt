-- What slots and stored fields show, each by one step.
use Rattle.std.proofs.Common.{◌≡◌, ℕ, List, Option, sym, ap, ◌∙◌}
use Rattle.obj_kinds.specs.declared.sub.Sub.{Sub}
use Rattle.obj_kinds.specs.declared.value.Value.{Value}
use Rattle.obj_kinds.specs.declared.value.Value.TheVariants as value
use Rattle.schema_kinds.specs.declared.record.Field.TheVariants as field
use Rattle.schema_kinds.specs.declared.record.Field.TheVariants.{rolls-Plain as rolls-Text, rolls-Target as rolls-Id, rolls-Map as rolls-Pairs}
use Rattle.schema_kinds.specs.declared.record.Field.TheOpen.{Field-F}
use Rattle.schema_kinds.specs.declared.record.Field.TheFolds.{fold-roll-Field}
use Rattle.oref_table.specs.declared.oref.Oref.{Oref}
use Rattle.oref_table.specs.declared.slot.Slot.{Slot}
use Rattle.oref_table.specs.declared.slot.Slot.TheVariants.{Plain, Target, To, Items, Map, Members, rolls-Plain, rolls-Target, rolls-To, rolls-Items, rolls-Map, rolls-Members}
use Rattle.oref_table.specs.declared.slot.Slot.TheOpen.{Slot-F}
use Rattle.oref_table.specs.declared.slot.Slot.TheViews.{out-Slot, out-roll-Slot}
use Rattle.oref_table.proofs.RefLaws.{refs-plain, refs-target, refs-to, refs-items, refs-map, refs-members}
use Rattle.obj_validity.proofs.ShareLaws.{share_plain, share_target}
use Rattle.obj_shape.specs.Slots.{slot_step, slot_of}
use Rattle.object_calls.proofs.Lists.{list_out, text_out, plain_out, target_out, map_out, plain_item, target_item, same_texts, same_lists}

pub plain_slot : (v : Value) → out-Slot (Plain v) ≡ Slot-F.Plain v
plain_slot v = ap out-Slot (sym (rolls-Plain v)) ∙ out-roll-Slot (Slot-F.Plain v)

pub target_slot : (id : Option (List ℕ)) → out-Slot (Target id) ≡ Slot-F.Target id
target_slot id = ap out-Slot (sym (rolls-Target id)) ∙ out-roll-Slot (Slot-F.Target id)

pub to_slot : (o : Oref) → out-Slot (To o) ≡ Slot-F.To o
to_slot o = ap out-Slot (sym (rolls-To o)) ∙ out-roll-Slot (Slot-F.To o)

pub items_slot : (slots : List Slot) → out-Slot (Items slots) ≡ Slot-F.Items slots
items_slot slots = ap out-Slot (sym (rolls-Items slots)) ∙ out-roll-Slot (Slot-F.Items slots)

pub map_slot : (pairs : List (Sub × Slot)) → out-Slot (Map pairs) ≡ Slot-F.Map pairs
map_slot pairs = ap out-Slot (sym (rolls-Map pairs)) ∙ out-roll-Slot (Slot-F.Map pairs)

pub members_slot : (orefs : List Oref) → out-Slot (Members orefs) ≡ Slot-F.Members orefs
members_slot orefs = ap out-Slot (sym (rolls-Members orefs)) ∙ out-roll-Slot (Slot-F.Members orefs)

pub text_read : (t : List ℕ) → slot_of (field.Plain t) ≡ Plain (value.Str t)
text_read t = ap slot_of (sym (rolls-Text t)) ∙ fold-roll-Field Slot slot_step (Field-F.Plain t)

pub id_read : (id : Option (List ℕ)) → slot_of (field.Target id) ≡ Target id
id_read id = ap slot_of (sym (rolls-Id id)) ∙ fold-roll-Field Slot slot_step (Field-F.Target id)

-- what a slot or a field shows
pub ruleset views = (list_out, text_out, plain_out, target_out, map_out, text_read, id_read, plain_slot, target_slot, to_slot, items_slot, map_slot, members_slot, refs-plain, refs-target, refs-to, refs-items, refs-map, refs-members)

-- how fields are written, how long they are, and which values are the same
pub ruleset items = (plain_item, target_item, same_texts, same_lists, share_plain, share_target)
