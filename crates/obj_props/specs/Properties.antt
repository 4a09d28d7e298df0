-- What a property holds, and what a read of it answers and leaves.
use Rattle.std.specs.Prelude.{◌+◌, ℕ, List, [], ◌∷◌, position, slice_get, Option, None, Some, unwrap_or}
use Rattle.obj_kinds.specs.declared.name.ClassName.{ClassName}
use Rattle.obj_kinds.specs.declared.value.Value.{Value}
use Rattle.obj_kinds.specs.declared.value.Value.TheVariants as value
use Rattle.obj_kinds.specs.declared.error_name.ErrorName.{ErrorName}
use Rattle.obj_kinds.specs.declared.error_name.ErrorName.TheVariants.{PropertyDoesNotExist}
use Rattle.obj_kinds.specs.Texts.{same_text}
use Rattle.schema_kinds.specs.declared.class.Class.{Class}
use Rattle.schema_kinds.specs.declared.key.Key.{Key}
use Rattle.schema_kinds.specs.declared.prop.Prop.{Prop}
use Rattle.schema_kinds.specs.declared.kind.Kind.{Kind}
use Rattle.schema_kinds.specs.declared.kind.Kind.TheVariants as kind
use Rattle.schema_kinds.specs.declared.kind.Item.{Item}
use Rattle.schema_kinds.specs.declared.kind.Item.TheVariants as of
use Rattle.schema_kinds.specs.Classes.{class_of, props_of, extent_of}
use Rattle.oref_table.specs.declared.slot.Slot.{Slot}
use Rattle.oref_table.specs.declared.slot.Slot.TheVariants.{To}
use Rattle.oref_table.specs.declared.slot.Slot.TheOpen.{Slot-F}
use Rattle.oref_table.specs.declared.slot.Slot.TheViews.{out-Slot}
use Rattle.oref_table.specs.Memory.{Object, Memory, object_of, edited, tighten, loosed, with_object, fresh}
use Rattle.oref_table.specs.Dropping.{dropped}
use Rattle.oref_table.specs.Filling.{with_slot}
use Rattle.obj_props.specs.declared.content.Content.{Content}
use Rattle.obj_props.specs.declared.content.Content.TheVariants as holds
use Rattle.obj_props.specs.declared.got.Got.{Got}
use Rattle.obj_props.specs.declared.got.Got.TheVariants as got
use Rattle.obj_shape.specs.Slots.{empty_slots}

-- the place of the property of that name
abbrev pub prop_place : List ℕ → List Prop → Option ℕ
prop_place name props = position (λ p. same_text p.name name) props

-- the value there; the empty text where there is none
abbrev pub value_of : Slot-F Slot → Value
value_of (Slot-F.Plain v) = v
value_of _ = value.Str []

-- the key of an id in the extent of the class
abbrev pub key_of : List Class → ClassName → List ℕ → Key
key_of classes c id = record { extent = unwrap_or (extent_of classes c) c; id = id }

-- of a reference: an object, an id, or nothing
abbrev pub reference_content : List Class → ClassName → Slot-F Slot → Content
reference_content classes c (Slot-F.To o) = holds.Object o
reference_content classes c (Slot-F.Target (Some id)) = holds.Stored (key_of classes c id) c
reference_content classes c _ = holds.Value (value.Str [])

-- of a part: its object, its fields, or none, which counts as an empty one
abbrev pub part_content : List Class → ClassName → Slot-F Slot → Content
part_content classes c (Slot-F.To o) = holds.Object o
part_content classes c (Slot-F.Items slots) = holds.Part c slots
part_content classes c _ = holds.Part c (empty_slots (props_of (class_of classes c)))

abbrev pub element_content : List Class → Item → Slot-F Slot → Content
element_content classes of.Text s = holds.Value (value_of s)
element_content classes of.Whole s = holds.Value (value_of s)
element_content classes of.Truth s = holds.Value (value_of s)
element_content classes (of.Ref c) s = reference_content classes c s
element_content classes (of.Serial c) s = part_content classes c s

abbrev pub kind_content : List Class → Kind → Slot-F Slot → Content
kind_content classes kind.Text s = holds.Value (value_of s)
kind_content classes kind.Whole s = holds.Value (value_of s)
kind_content classes kind.Truth s = holds.Value (value_of s)
kind_content classes (kind.Ref c) s = reference_content classes c s
kind_content classes (kind.Serial c) s = part_content classes c s
kind_content classes (kind.ListOf i) s = holds.Collection
kind_content classes (kind.ArrayOf i) s = holds.Collection
kind_content classes (kind.Many c side) s = holds.Collection
kind_content classes (kind.One c side) s = reference_content classes c s

-- what a read comes to: an answer, and the memory then; or an error of the script, which leaves memory alone
pub data Read : Type 0 where
  gives : Got → Memory → Read
  fails : ErrorName → Read

-- a part gets an object of the next number; then the slot of its holder has it, in what it holds from then on
abbrev pub part_made : Memory → ℕ → ℕ → ℕ → ClassName → Option ClassName → List Slot → Slot → Memory
part_made m n level at c extent slots put =
    dropped (loosed (edited (edited (with_object m (fresh m c extent None level slots)) (m.last + 1) tighten) n (with_slot at put)) ((m.last + 1) ∷ []))

-- what is read of what is there, and what is left: an object is held once more, and a part that has no object gets one
abbrev pub read_of : List Class → Memory → ℕ → ℕ → ℕ → (ℕ → Slot) → Content → Read
read_of classes m n level at put (holds.Value v) = gives (got.Plain v) m
read_of classes m n level at put (holds.Object q) = gives (got.To (record { number = q.0 })) (edited m q.0 tighten)
read_of classes m n level at put (holds.Stored key c) = gives (got.Touch key c) m
read_of classes m n level at put (holds.Part c slots) = gives (got.To (record { number = m.last + 1 })) (part_made m n level at c (extent_of classes c) slots (put (m.last + 1)))
read_of classes m n level at put holds.Collection = gives got.Coll m

-- the slot has the object alone
abbrev pub alone : ℕ → Slot
alone n = To (record { 0 = n })

abbrev pub slot_read : List Class → Memory → ℕ → ℕ → ℕ → Option Prop → Option Slot → Read
slot_read classes m n level at (Some p) (Some s) = read_of classes m n level at alone (kind_content classes p.kind (out-Slot s))
slot_read classes m n level at _ _ = fails PropertyDoesNotExist

abbrev pub place_read : List Class → Memory → Object → Option ℕ → Read
place_read classes m o None = fails PropertyDoesNotExist
place_read classes m o (Some at) = slot_read classes m o.number o.level at (slice_get (props_of (class_of classes o.class)) at) (slice_get o.slots at)

abbrev pub object_read : List Class → Memory → List ℕ → Option Object → Read
object_read classes m name None = fails PropertyDoesNotExist
object_read classes m name (Some o) = place_read classes m o (prop_place name (props_of (class_of classes o.class)))

-- of a property of the object of the number, by its name
unfoldable pub prop_read : List Class → Memory → ℕ → List ℕ → Read
prop_read classes m n name = object_read classes m name (object_of n m.objects)
