-- The slots of a new object, of an empty part, and of a record that was read.
use Rattle.std.specs.Prelude.{ℕ, List, [], ◌∷◌, map, Option, None, Some}
use Rattle.obj_kinds.specs.declared.value.Value.TheVariants as value
use Rattle.schema_kinds.specs.declared.prop.Prop.{Prop}
use Rattle.schema_kinds.specs.declared.kind.Kind.{Kind}
use Rattle.schema_kinds.specs.declared.kind.Kind.TheVariants as kind
use Rattle.schema_kinds.specs.declared.record.Field.{Field}
use Rattle.schema_kinds.specs.declared.record.Field.TheOpen.{Field-F}
use Rattle.schema_kinds.specs.declared.record.Field.TheFolds.{fold-Field}
use Rattle.oref_table.specs.declared.slot.Slot.{Slot}
use Rattle.oref_table.specs.declared.slot.Slot.TheVariants.{Plain, Target, Items, Map, Members}

-- a property of the kind that holds nothing; the text is what a value is then
abbrev pub slot_with : List ℕ → Kind → Slot
slot_with text kind.Text = Plain (value.Str text)
slot_with text kind.Whole = Plain (value.Str text)
slot_with text kind.Truth = Plain (value.Str text)
slot_with text (kind.Ref c) = Target None
slot_with text (kind.Serial c) = Target None
slot_with text (kind.ListOf i) = Items []
slot_with text (kind.ArrayOf i) = Map []
slot_with text (kind.Many c side) = Members []
slot_with text (kind.One c side) = Target None

-- of a new object: values are the initial ones
abbrev pub initial_slots : List Prop → List Slot
initial_slots props = map (λ p. slot_with p.initial p.kind) props

-- of a part that a read makes: all is empty
abbrev pub empty_slots : List Prop → List Slot
empty_slots props = map (λ p. slot_with [] p.kind) props

abbrev pub part_slot : Option (List Slot) → Slot
part_slot None = Target None
part_slot (Some slots) = Items slots

abbrev pub slot_step : Field-F Slot → Slot
slot_step (Field-F.Plain text) = Plain (value.Str text)
slot_step (Field-F.Target id) = Target id
slot_step (Field-F.Part slots) = part_slot slots
slot_step (Field-F.List slots) = Items slots
slot_step (Field-F.Map pairs) = Map pairs

-- what stands where a field was read: a part's fields, until it is touched, and ids
abbrev pub slot_of : Field → Slot
slot_of = fold-Field Slot slot_step

-- of the next property of a record: a many side has no field, and no members yet
abbrev pub next_slot : Kind → List Field → Slot
next_slot (kind.Many c side) fields = Members []
next_slot k [] = slot_with [] k
next_slot k (f ∷ fields) = slot_of f

-- what is left for the properties behind it
abbrev pub fields_left : Kind → List Field → List Field
fields_left (kind.Many c side) fields = fields
fields_left k [] = []
fields_left k (f ∷ fields) = fields

-- of a record: one slot for each property
abbrev pub slots_of : List Prop → List Field → List Slot
slots_of [] fields = []
slots_of (p ∷ ps) fields = next_slot p.kind fields ∷ slots_of ps (fields_left p.kind fields)
