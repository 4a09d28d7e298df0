-- The record of an object, and the slots of a record.
use Rattle.std.specs.Prelude.{ℕ, zero, suc, List, [], ◌∷◌, ◌++◌, map, Option, None, Some, option_map, option_to_list}
use Rattle.std.specs.Ordering.{nat_cmp}
use Rattle.std.specs.Map.{lookup}
use Rattle.std.specs.BTreeMap.{is_at}
use Rattle.obj_kinds.specs.declared.name.ClassName.{ClassName}
use Rattle.obj_kinds.specs.declared.sub.Sub.{Sub}
use Rattle.obj_kinds.specs.declared.value.Value.{Value}
use Rattle.obj_kinds.specs.declared.value.Value.TheOpen.{Value-F}
use Rattle.obj_kinds.specs.declared.value.Value.TheViews.{out-Value}
use Rattle.schema_kinds.specs.declared.class.Class.{Class}
use Rattle.schema_kinds.specs.declared.prop.Prop.{Prop}
use Rattle.schema_kinds.specs.declared.kind.Item.{Item}
use Rattle.schema_kinds.specs.declared.kind.Item.TheVariants as of
use Rattle.schema_kinds.specs.declared.record.Field.{Field}
use Rattle.schema_kinds.specs.declared.record.Field.TheVariants as field
use Rattle.schema_kinds.specs.declared.record.Record.{Record}
use Rattle.schema_kinds.specs.Classes.{class_of, props_of}
use Rattle.record_layout.specs.Shapes.{Form, single, listed, keyed, form_of}
use Rattle.oref_table.specs.declared.slot.Slot.{Slot}
use Rattle.oref_table.specs.declared.slot.Slot.TheOpen.{Slot-F}
use Rattle.oref_table.specs.declared.slot.Slot.TheViews.{out-Slot}
use Rattle.oref_table.specs.Memory.{Object, Memory, object_of}

abbrev pub text_in : Value-F Value → List ℕ
text_in (Value-F.Str text) = text
text_in (Value-F.List vs) = []

-- the text of a value
abbrev pub text_of : Slot-F Slot → List ℕ
text_of (Slot-F.Plain v) = text_in (out-Value v)
text_of _ = []

-- the items of a list, and the elements of an array
abbrev pub items_of : Slot-F Slot → List Slot
items_of (Slot-F.Items slots) = slots
items_of _ = []

abbrev pub pairs_of : Slot-F Slot → List (Sub × Slot)
pairs_of (Slot-F.Map pairs) = pairs
pairs_of _ = []

abbrev pub slots_part : Option Object → List Slot
slots_part None = []
slots_part (Some o) = o.slots

-- the slots of the object of the number
abbrev pub slots_at : Memory → ℕ → List Slot
slots_at m n = slots_part (object_of n m.objects)

abbrev pub id_part : Option Object → Option (List ℕ)
id_part None = None
id_part (Some o) = o.id

abbrev pub drawn_part : Option (List ℕ) → Option (List ℕ) → Option (List ℕ)
drawn_part None own = own
drawn_part (Some id) own = Some id

-- the id of the object of the number: the one that was drawn for it, else its own
abbrev pub id_at : Memory → List (ℕ × List ℕ) → ℕ → Option (List ℕ)
id_at m drawn n = drawn_part (lookup (is_at (nat_cmp n)) drawn) (id_part (object_of n m.objects))

-- the id that a reference leads to
abbrev pub target_of : Memory → List (ℕ × List ℕ) → Slot-F Slot → Option (List ℕ)
target_of m drawn (Slot-F.Target id) = id
target_of m drawn (Slot-F.To oref) = id_at m drawn oref.0
target_of m drawn _ = None

-- the slots of a part, which has an object or not
abbrev pub part_slots : Memory → Slot-F Slot → Option (List Slot)
part_slots m (Slot-F.To oref) = Some (slots_at m oref.0)
part_slots m (Slot-F.Items slots) = Some slots
part_slots m _ = None

abbrev pub part_with : (List Slot → Option (List Field)) → Option (List Slot) → Option (List Field)
part_with fields None = None
part_with fields (Some slots) = fields slots

-- what is stored of an element, where it is said what is of a part
abbrev pub element_field : Memory → List (ℕ × List ℕ) → (ClassName → List Slot → Option (List Field)) → Item → Slot-F Slot → Field
element_field m drawn part of.Text s = field.Plain (text_of s)
element_field m drawn part of.Whole s = field.Plain (text_of s)
element_field m drawn part of.Truth s = field.Plain (text_of s)
element_field m drawn part (of.Ref c) s = field.Target (target_of m drawn s)
element_field m drawn part (of.Serial c) s = field.Part (part_with (part c) (part_slots m s))

-- of a property
abbrev pub field_by : Memory → List (ℕ × List ℕ) → (ClassName → List Slot → Option (List Field)) → Form → Slot-F Slot → Field
field_by m drawn part (single i) s = element_field m drawn part i s
field_by m drawn part (listed i) s = field.List (map (λ t. element_field m drawn part i (out-Slot t)) (items_of s))
field_by m drawn part (keyed i) s = field.Map (map (λ p. (p.0, element_field m drawn part i (out-Slot p.1))) (pairs_of s))

-- of all properties: a many side is left out
abbrev pub fields_by : Memory → List (ℕ × List ℕ) → (ClassName → List Slot → Option (List Field)) → List Prop → List Slot → List Field
fields_by m drawn part [] slots = []
fields_by m drawn part (p ∷ ps) [] = []
fields_by m drawn part (p ∷ ps) (s ∷ ss) =
    option_to_list (option_map (λ form. field_by m drawn part form (out-Slot s)) (form_of p.kind)) ++ fields_by m drawn part ps ss

-- of a part of the class, with no more than n parts one in the other
abbrev pub part_fields : ℕ → List Class → Memory → List (ℕ × List ℕ) → ClassName → List Slot → Option (List Field)
part_fields zero classes m drawn c slots = None
part_fields (suc n) classes m drawn c slots = Some (fields_by m drawn (part_fields n classes m drawn) (props_of (class_of classes c)) slots)

-- the record of an object, where some ids are drawn that the objects don't have yet: each OREF is the id of its object,
-- and each part its fields; parts nest at most 4 deep
unfoldable pub record_of : List Class → Memory → List (ℕ × List ℕ) → Object → Record
record_of classes m drawn o = record {
  class = o.class;
  fields = fields_by m drawn (part_fields 4 classes m drawn) (props_of (class_of classes o.class)) o.slots;
}

-- of the object of the number, where it is live
abbrev pub record_at : List Class → Memory → List (ℕ × List ℕ) → ℕ → Option Record
record_at classes m drawn n = option_map (record_of classes m drawn) (object_of n m.objects)
