-- Sets of properties keep the memory of a process.
use Rattle.std.specs.Prelude.{◌≡◌, ℕ, List, [], Option, Some, slice_get}
use Rattle.obj_kinds.specs.declared.name.ClassName.{ClassName}
use Rattle.schema_kinds.specs.declared.class.Class.{Class}
use Rattle.schema_kinds.specs.declared.prop.Prop.{Prop}
use Rattle.schema_kinds.specs.declared.kind.Kind.{Kind}
use Rattle.schema_kinds.specs.declared.kind.Kind.TheVariants as kind
use Rattle.schema_kinds.specs.Classes.{class_of, props_of, IsBelow}
use Rattle.schema_kinds.specs.declared.kind.Item.{Item}
use Rattle.record_layout.specs.Shapes.{form_of}
use Rattle.oref_table.specs.declared.slot.Slot.{Slot}
use Rattle.oref_table.specs.declared.slot.Slot.TheViews.{out-Slot}
use Rattle.oref_table.specs.declared.fill.Fill.{Fill}
use Rattle.oref_table.specs.Memory.{Object, Memory, object_of}
use Rattle.oref_table.specs.Filling.{passed}
use Rattle.obj_shape.specs.Fitting.{IsElement, IsSlotOf}
use Rattle.obj_shape.specs.Wholeness.{IsWhole}
use Rattle.obj_props.specs.Properties.{prop_place}
use Rattle.prop_setting.specs.Elements.{Takes, standing, stood}
use Rattle.prop_setting.specs.Sets.{FormSets}
use Rattle.object_calls.specs.Keys.{ManySide}
use Rattle.object_members.specs.Seeing.{memories, many_place}
use Rattle.object_members.specs.SetLaws.{IsLegalFill, IsLegalAs}
use Rattle.object_members.specs.Writes.{one_side_set}
use Rattle.memory_laws.specs.Kept.{IsGood, Keeps}

-- a property of one element is set, a part too, and the hold on what is set is the set's from then on
abbrev pub SetsKeep : Type 0
SetsKeep =
    (classes : List Class) (m : Memory) (o : Object) (at : ℕ) (p : Prop) (w : Fill) (new : Memory) → IsWhole classes → IsGood classes m → object_of o.number m.objects ≡ Some o
    → slice_get (props_of (class_of classes o.class)) at ≡ Some p → IsLegalFill m w → FormSets classes m o.number at o.level (form_of p.kind) w new
    → Keeps classes m new [] (passed w)

-- each object is still there, as it was
abbrev pub HasAllOf : Memory → Memory → Type 0
HasAllOf m w = (n : ℕ) (o : Object) → object_of n m.objects ≡ Some o → object_of n w.objects ≡ Some o

-- what fits as an element, then fits the property as a part of this whole
abbrev pub IsShapeFor : List Class → Memory → Prop → Item → (Slot → Slot) → Type 0
IsShapeFor classes m p i shape = (w : Memory) (t : Slot) → HasAllOf m w → IsElement classes w i (out-Slot t) → IsSlotOf classes w p (shape t)

-- an element is set as a part of the whole that stands in the slot, as the slot itself or as one of a list or of an array
abbrev pub ElementsKeep : Type 0
ElementsKeep =
    (classes : List Class) (m : Memory) (o : Object) (at : ℕ) (p : Prop) (i : Item) (shape : Slot → Slot) (w : Fill) → IsWhole classes → IsGood classes m → object_of o.number m.objects ≡ Some o
    → slice_get (props_of (class_of classes o.class)) at ≡ Some p → IsShapeFor classes m p i shape → IsLegalAs m i w → Takes classes m i w
    → Keeps classes m (stood o.number at shape (standing classes m o.level i w)) [] (passed w)

-- a property of that kind has objects of the class as members, or may name them
abbrev pub HasMembersOf : List Class → ClassName → Kind → Type 0
HasMembersOf classes name (kind.Many c side) = IsBelow classes name c
HasMembersOf classes name _ = ⊥

abbrev pub MayName : List Class → ClassName → Kind → Type 0
MayName classes name (kind.One c side) = IsBelow classes name c
MayName classes name (kind.Ref c) = IsBelow classes name c
MayName classes name _ = ⊥

-- what the schema says of the property at a place of a class
abbrev pub HasAt : List Class → ClassName → Option ℕ → (Kind → Type 0) → Type 0
HasAt classes class place P = (at : ℕ) (p : Prop) → place ≡ Some at → slice_get (props_of (class_of classes class)) at ≡ Some p → P p.kind

-- each class at or below `c` that has a property of the name of the many side has members of the class by it
abbrev pub IsInverse : List Class → ClassName → List ℕ → ClassName → Type 0
IsInverse classes c side name = (class : ClassName) → IsBelow classes class c → HasAt classes class (prop_place side (props_of (class_of classes class))) (HasMembersOf classes name)

-- a one side is set, and the touched members of its targets are kept in step
abbrev pub OneSidesKeep : Type 0
OneSidesKeep =
    (classes : List Class) (m : Memory) (o : Object) (at : ℕ) (p : Prop) (c : ClassName) (side : List ℕ) (slot : Slot) (holds : List ℕ) → IsGood classes m → object_of o.number m.objects ≡ Some o
    → slice_get (props_of (class_of classes o.class)) at ≡ Some p → p.kind ≡ kind.One c side → IsInverse classes c side o.class → IsSlotOf classes m p slot
    → Keeps classes m (one_side_set classes m o at side slot holds) [] holds

-- a member was opened, and it and its holder name each other
abbrev pub MembersKeep : Type 0
MembersKeep =
    (classes : List Class) (m : Memory) (side : ManySide) (holder member : ℕ) (h k : Object) → IsGood classes m → object_of holder m.objects ≡ Some h → object_of member m.objects ≡ Some k
    → HasAt classes k.class (prop_place side.side (props_of (class_of classes k.class))) (MayName classes h.class)
    → HasAt classes h.class (many_place classes side h.class) (HasMembersOf classes k.class)
    → Keeps classes m ((memories classes).with_member side holder member m) [] []
