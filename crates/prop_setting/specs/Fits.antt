-- When a table still fits the schema once a slot is filled.
use Rattle.std.specs.Prelude.{◌≡◌, ◌≤◌, ℕ, IsTrue, IsSome, List, length, slice_get, Some}
use Rattle.std.specs.Char.{is_ascii}
use Rattle.std.specs.List.{list_all}
use Rattle.obj_kinds.specs.declared.name.ClassName.{ClassName}
use Rattle.schema_kinds.specs.declared.class.Class.{Class}
use Rattle.schema_kinds.specs.declared.prop.Prop.{Prop}
use Rattle.schema_kinds.specs.declared.kind.Kind.{Kind}
use Rattle.schema_kinds.specs.declared.kind.Item.{Item}
use Rattle.schema_kinds.specs.declared.kind.Item.TheVariants as of
use Rattle.schema_kinds.specs.Classes.{class_of, props_of}
use Rattle.record_layout.specs.Shapes.{Form, form_of}
use Rattle.oref_table.specs.declared.slot.Slot.{Slot}
use Rattle.oref_table.specs.declared.slot.Slot.TheViews.{out-Slot}
use Rattle.oref_table.specs.Memory.{Object, Memory, object_of}
use Rattle.obj_shape.specs.Fitting.{IsOfKind}

-- the slot of the object of the number is that of a property that may hold this
abbrev pub TakesSlot : List Class → Memory → ℕ → ℕ → Slot → Type 0
TakesSlot classes m n at slot =
    (o : Object) × (p : Prop) × (object_of n m.objects ≡ Some o) × (slice_get (props_of (class_of classes o.class)) at ≡ Some p) × IsOfKind classes m p.kind (out-Slot slot)

-- what linking gives of the names of classes: 60 bytes at most, each of ASCII
unfoldable pub AreNamed : List Class → Type 0
AreNamed classes = (c : ClassName) → IsSome (class_of classes c) → (length c.0 ≤ 60) × IsTrue (list_all is_ascii c.0)

-- the slot of the object of the number is that of a property of this form
abbrev pub IsSlotOfForm : List Class → Memory → ℕ → ℕ → Form → Type 0
IsSlotOfForm classes m n at form =
    (o : Object) × (p : Prop) × (object_of n m.objects ≡ Some o) × (slice_get (props_of (class_of classes o.class)) at ≡ Some p) × (form_of p.kind ≡ Some form)

-- that of a property of this kind
abbrev pub IsSlotOfKind : List Class → Memory → ℕ → ℕ → Kind → Type 0
IsSlotOfKind classes m n at k =
    (o : Object) × (p : Prop) × (object_of n m.objects ≡ Some o) × (slice_get (props_of (class_of classes o.class)) at ≡ Some p) × (p.kind ≡ k)

abbrev pub IsValue : Item → Type 0
IsValue of.Text = Unit {0}
IsValue of.Whole = Unit {0}
IsValue of.Truth = Unit {0}
IsValue (of.Ref c) = ⊥
IsValue (of.Serial c) = ⊥
