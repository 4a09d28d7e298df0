-- Copies of parts: each part that has an object gets one of the next number, before the parts in it, in the order of
-- properties and elements; a part without an object is copied as its fields; what a reference names is named once more.
use Rattle.std.specs.Prelude.{ℕ, zero, suc, ◌+◌, false, List, [], ◌∷◌, ◌++◌, None}
use Rattle.obj_kinds.specs.declared.name.ClassName.{ClassName}
use Rattle.schema_kinds.specs.declared.class.Class.{Class}
use Rattle.schema_kinds.specs.declared.prop.Prop.{Prop}
use Rattle.schema_kinds.specs.declared.kind.Kind.{Kind}
use Rattle.schema_kinds.specs.declared.kind.Kind.TheVariants as kind
use Rattle.schema_kinds.specs.declared.kind.Item.{Item}
use Rattle.schema_kinds.specs.declared.kind.Item.TheVariants as of
use Rattle.schema_kinds.specs.Classes.{class_of, props_of, extent_of}
use Rattle.oref_table.specs.declared.obj.NewObj.{NewObj}
use Rattle.oref_table.specs.declared.slot.Slot.{Slot}
use Rattle.oref_table.specs.declared.slot.Slot.TheVariants.{To, Items}
use Rattle.oref_table.specs.declared.slot.Slot.TheOpen.{Slot-F}
use Rattle.oref_table.specs.declared.slot.Slot.TheViews.{out-Slot}
use Rattle.oref_table.specs.Memory.{Object, Memory, tighten}
use Rattle.oref_table.specs.Refs.{refs_of}
use Rattle.obj_shape.specs.Records.{items_of, slots_at}
use Rattle.obj_shape.specs.Slots.{empty_slots, slot_with}

-- the last number that is given then, the objects that are new, in the order of their numbers, what objects from before
-- they name, and what stands in the copy
pub record Copies (X : Type 0) : Type 0 where
  pub last : ℕ
  pub made : List NewObj
  pub named : List ℕ
  pub copy : X

-- what is not a part with an object stays as it is, and names what it named
abbrev pub as_it_is : ℕ → Slot → Copies Slot
as_it_is last s = record { last = last; made = []; named = refs_of s; copy = s }

abbrev pub slot_to : Copies ℕ → Copies Slot
slot_to p = record { last = p.last; made = p.made; named = p.named; copy = To (record { 0 = p.copy }) }

abbrev pub copy_part_at : Memory → (ClassName → List Slot → ℕ → Copies ℕ) → ClassName → Slot-F Slot → Slot → ℕ → Copies Slot
copy_part_at m part c (Slot-F.To q) s last = slot_to (part c (slots_at m q.0) last)
copy_part_at m part c _ s last = as_it_is last s

abbrev pub copy_element : Memory → (ClassName → List Slot → ℕ → Copies ℕ) → Item → Slot → ℕ → Copies Slot
copy_element m part (of.Serial c) s last = copy_part_at m part c (out-Slot s) s last
copy_element m part i s last = as_it_is last s

abbrev pub none_left : ℕ → Copies (List Slot)
none_left last = record { last = last; made = []; named = []; copy = [] }

abbrev pub joined : Copies Slot → Copies (List Slot) → Copies (List Slot)
joined one rest = record { last = rest.last; made = one.made ++ rest.made; named = one.named ++ rest.named; copy = one.copy ∷ rest.copy }

abbrev pub copy_elements : Memory → (ClassName → List Slot → ℕ → Copies ℕ) → Item → List Slot → ℕ → Copies (List Slot)
copy_elements m part i [] last = none_left last
copy_elements m part i (s ∷ ss) last = joined (copy_element m part i s last) (copy_elements m part i ss (copy_element m part i s last).last)

abbrev pub as_list : Copies (List Slot) → Copies Slot
as_list c = record { last = c.last; made = c.made; named = c.named; copy = Items c.copy }

abbrev pub left_empty : Kind → ℕ → Copies Slot
left_empty k last = record { last = last; made = []; named = []; copy = slot_with [] k }

-- of a property: a part has neither arrays nor many sides
abbrev pub copy_kind : Memory → (ClassName → List Slot → ℕ → Copies ℕ) → Kind → Slot → ℕ → Copies Slot
copy_kind m part kind.Text s last = as_it_is last s
copy_kind m part kind.Whole s last = as_it_is last s
copy_kind m part kind.Truth s last = as_it_is last s
copy_kind m part (kind.Ref c) s last = as_it_is last s
copy_kind m part (kind.Serial c) s last = copy_part_at m part c (out-Slot s) s last
copy_kind m part (kind.ListOf i) s last = as_list (copy_elements m part i (items_of (out-Slot s)) last)
copy_kind m part (kind.ArrayOf i) s last = left_empty (kind.ArrayOf i) last
copy_kind m part (kind.Many c side) s last = left_empty (kind.Many c side) last
copy_kind m part (kind.One c side) s last = as_it_is last s

abbrev pub copy_fields : Memory → (ClassName → List Slot → ℕ → Copies ℕ) → List Prop → List Slot → ℕ → Copies (List Slot)
copy_fields m part [] slots last = none_left last
copy_fields m part (p ∷ ps) [] last = none_left last
copy_fields m part (p ∷ ps) (s ∷ ss) last = joined (copy_kind m part p.kind s last) (copy_fields m part ps ss (copy_kind m part p.kind s last).last)

-- a part with an object of the number, before what it has in it
abbrev pub part_of : List Class → ℕ → ClassName → ℕ → Copies (List Slot) → Copies ℕ
part_of classes level c number fields = record {
  last = fields.last;
  made = record { class = c; extent = extent_of classes c; level = level; slots = fields.copy } ∷ fields.made;
  named = fields.named;
  copy = number;
}

-- what is in a part of the class: parts nest at most n deep in it, and below that a part has nothing
abbrev pub copied_slots : ℕ → List Class → Memory → ℕ → ClassName → List Slot → ℕ → Copies (List Slot)
copied_slots zero classes m level c slots last = record { last = last; made = []; named = []; copy = empty_slots (props_of (class_of classes c)) }
copied_slots (suc n) classes m level c slots last =
    copy_fields m (λ d ss k. part_of classes level d (k + 1) (copied_slots n classes m level d ss (k + 1))) (props_of (class_of classes c)) slots last

-- of a part of the class with these slots, where so many numbers are given
abbrev pub copy_part : ℕ → List Class → Memory → ℕ → ClassName → List Slot → ℕ → Copies ℕ
copy_part n classes m level c slots last = part_of classes level c (last + 1) (copied_slots n classes m level c slots (last + 1))

-- ---- memory with them

-- a new object, which nothing holds outside
abbrev pub part_object : ℕ → NewObj → Object
part_object number n = record {
  number = number;
  class = n.class;
  extent = n.extent;
  id = None;
  level = n.level;
  modified = false;
  slots = n.slots;
  outside = 0;
}

abbrev pub objects_from : ℕ → List NewObj → List Object
objects_from last [] = []
objects_from last (n ∷ ns) = part_object (last + 1) n ∷ objects_from (last + 1) ns

-- the first of them has one hold outside
abbrev pub first_held : List Object → List Object
first_held [] = []
first_held (o ∷ os) = tighten o ∷ os

abbrev pub with_copies : Memory → Copies ℕ → Memory
with_copies m c = record { objects = m.objects ++ first_held (objects_from m.last c.made); last = c.last; freed = m.freed }
