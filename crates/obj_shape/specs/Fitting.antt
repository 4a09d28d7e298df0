-- A table fits the schema: each live object has a class of the schema, its extent, an id of that extent or none, a level,
-- and one slot for each property, of a form that the property's kind has.
use Rattle.std.specs.Prelude.{◌≡◌, ◌≤◌, ℕ, IsTrue, IsSome, IsSomeAnd, List, Option, None, Some, map}
use Rattle.std.specs.List.{AllByRecursion}
use Rattle.std.specs.FinMap.{is_sorted}
use Rattle.obj_kinds.specs.declared.name.ClassName.{ClassName}
use Rattle.obj_kinds.specs.declared.sub.Sub.{Sub}
use Rattle.obj_kinds.specs.SubOrder.{sub_cmp}
use Rattle.obj_kinds.specs.Limits.{is_legal_sub}
use Rattle.schema_kinds.specs.declared.class.Class.{Class}
use Rattle.schema_kinds.specs.declared.prop.Prop.{Prop}
use Rattle.schema_kinds.specs.declared.kind.Kind.{Kind}
use Rattle.schema_kinds.specs.declared.kind.Kind.TheVariants as kind
use Rattle.schema_kinds.specs.declared.kind.Item.{Item}
use Rattle.schema_kinds.specs.declared.kind.Item.TheVariants as of
use Rattle.schema_kinds.specs.Classes.{class_of, props_of, extent_of, IsBelow}
use Rattle.record_layout.specs.Inverse.{EachGood, AreGood}
use Rattle.record_layout.specs.Shapes.{Form, single, listed, keyed, form_of}
use Rattle.oref_table.specs.declared.oref.Oref.{Oref}
use Rattle.oref_table.specs.declared.slot.Slot.{Slot}
use Rattle.oref_table.specs.declared.slot.Slot.TheOpen.{Slot-F}
use Rattle.oref_table.specs.declared.slot.Slot.TheViews.{out-Slot}
use Rattle.oref_table.specs.Memory.{Object, Memory, object_of}
use Rattle.obj_shape.specs.Elements.{IsTargetOf, IsStoredElement}

-- an object of the number is live, and its class is as is said
abbrev pub NamesObject : Memory → (ClassName → Type 0) → Oref → Type 0
NamesObject m P oref = IsSomeAnd (object_of oref.0 m.objects) (λ o. P o.class)

-- what a reference may name is at or below its class, and a part is of its class itself
abbrev pub IsClassFor : List Class → Item → ClassName → Type 0
IsClassFor classes (of.Ref c) name = IsBelow classes name c
IsClassFor classes (of.Serial c) name = name ≡ c
IsClassFor classes _ name = ⊥

-- an element has an object, or a value, an id or a part's fields
abbrev pub IsElement : List Class → Memory → Item → Slot-F Slot → Type 0
IsElement classes m i (Slot-F.To oref) = NamesObject m (IsClassFor classes i) oref
IsElement classes m i s = IsStoredElement classes i s

-- a key is within the limits
abbrev pub IsPair : List Class → Memory → Item → Sub × Slot → Type 0
IsPair classes m i p = IsTrue (is_legal_sub p.0) × IsElement classes m i (out-Slot p.1)

-- one element, a list of elements, or elements in the order of their keys
abbrev pub IsOfForm : List Class → Memory → Form → Slot-F Slot → Type 0
IsOfForm classes m (single i) s = IsElement classes m i s
IsOfForm classes m (listed i) (Slot-F.Items slots) = EachGood (λ s. IsElement classes m i (out-Slot s)) slots
IsOfForm classes m (keyed i) (Slot-F.Map pairs) = IsTrue (is_sorted sub_cmp pairs) × EachGood (IsPair classes m i) pairs
IsOfForm classes m _ _ = ⊥

abbrev pub IsOfSomeForm : List Class → Memory → Option Form → Slot-F Slot → Type 0
IsOfSomeForm classes m None s = ⊥
IsOfSomeForm classes m (Some form) s = IsOfForm classes m form s

-- a many side has its touched members, which are at or below the class of members; any other property its element or
-- elements
abbrev pub IsOfKind : List Class → Memory → Kind → Slot-F Slot → Type 0
IsOfKind classes m (kind.Many c side) (Slot-F.Members orefs) = EachGood (NamesObject m (λ name. IsBelow classes name c)) orefs
IsOfKind classes m kind s = IsOfSomeForm classes m (form_of kind) s

abbrev pub IsSlotOf : List Class → Memory → Prop → Slot → Type 0
IsSlotOf classes m p s = IsOfKind classes m p.kind (out-Slot s)

-- an object's own class is one of the schema
pub record FitsSchema (classes : List Class) (m : Memory) (o : Object) : Type 0 where
  pub class : IsSome (class_of classes o.class)
  pub extent : o.extent ≡ extent_of classes o.class
  pub id : IsTargetOf classes o.class o.id
  pub level : o.level ≤ 4
  pub slots : AreGood (IsSlotOf classes m) (props_of (class_of classes o.class)) o.slots

-- each live object does
unfoldable pub TableFits : List Class → Memory → Type 0
TableFits classes m = AllByRecursion (FitsSchema classes m) m.objects
