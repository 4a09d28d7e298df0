-- What may stand in a slot without an object of its own: values, ids, and the fields of parts.
use Rattle.std.specs.Prelude.{◌≡◌, ℕ, zero, suc, IsTrue, IsSome, List, Option, None, Some}
use Rattle.obj_kinds.specs.declared.name.ClassName.{ClassName}
use Rattle.obj_kinds.specs.declared.value.Value.{Value}
use Rattle.obj_kinds.specs.declared.value.Value.TheOpen.{Value-F}
use Rattle.obj_kinds.specs.declared.value.Value.TheViews.{out-Value}
use Rattle.obj_kinds.specs.Limits.{is_legal_text}
use Rattle.schema_kinds.specs.declared.class.Class.{Class}
use Rattle.schema_kinds.specs.declared.kind.Item.{Item}
use Rattle.schema_kinds.specs.declared.kind.Item.TheVariants as of
use Rattle.schema_kinds.specs.Classes.{class_of, props_of, extent_of}
use Rattle.record_layout.specs.Inverse.{EachGood, AreGood}
use Rattle.record_layout.specs.Shapes.{Form, single, listed, form_of, IsIdOf}
use Rattle.oref_table.specs.declared.slot.Slot.{Slot}
use Rattle.oref_table.specs.declared.slot.Slot.TheOpen.{Slot-F}
use Rattle.oref_table.specs.declared.slot.Slot.TheViews.{out-Slot}

-- a text within the limits
abbrev pub IsPlain : Value-F Value → Type 0
IsPlain (Value-F.Str text) = IsTrue (is_legal_text text)
IsPlain (Value-F.List vs) = ⊥

-- no id, or one of the extent of the class, which then has one
abbrev pub IsTargetOf : List Class → ClassName → Option (List ℕ) → Type 0
IsTargetOf classes c None = Unit {0}
IsTargetOf classes c (Some id) = IsSome (extent_of classes c) × IsIdOf classes c id

-- a value, an id or none, no part, or the fields of a part, where it is said what these are
abbrev pub IsStored : List Class → (ClassName → List Slot → Type 0) → Item → Slot-F Slot → Type 0
IsStored classes part of.Text (Slot-F.Plain v) = IsPlain (out-Value v)
IsStored classes part of.Whole (Slot-F.Plain v) = IsPlain (out-Value v)
IsStored classes part of.Truth (Slot-F.Plain v) = IsPlain (out-Value v)
IsStored classes part (of.Ref c) (Slot-F.Target id) = IsTargetOf classes c id
IsStored classes part (of.Serial c) (Slot-F.Target id) = id ≡ None
IsStored classes part (of.Serial c) (Slot-F.Items slots) = part c slots
IsStored classes part _ _ = ⊥

-- the same of a property: one element, or a list of elements; a part has no arrays and no many sides
abbrev pub IsStoredField : List Class → (ClassName → List Slot → Type 0) → Option Form → Slot-F Slot → Type 0
IsStoredField classes part (Some (single i)) s = IsStored classes part i s
IsStoredField classes part (Some (listed i)) (Slot-F.Items slots) = EachGood (λ s. IsStored classes part i (out-Slot s)) slots
IsStoredField classes part _ _ = ⊥

-- the fields of a part of the class that has no object, one slot for each property, with no more than n parts one in
-- the other
abbrev pub IsStoredPart : ℕ → List Class → ClassName → List Slot → Type 0
IsStoredPart zero classes c slots = ⊥
IsStoredPart (suc n) classes c slots =
    AreGood (λ p s. IsStoredField classes (IsStoredPart n classes) (form_of p.kind) (out-Slot s)) (props_of (class_of classes c)) slots

-- serial parts nest at most 4 deep
abbrev pub IsStoredElement : List Class → Item → Slot-F Slot → Type 0
IsStoredElement classes i s = IsStored classes (IsStoredPart 4 classes) i s
