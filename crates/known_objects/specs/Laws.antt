-- Changes of a memory by which it comes to name no keys but those that it may name.
use Rattle.std.specs.Prelude.{◌≡◌, ◌≤◌, ℕ, List, Option, None, Some, slice_get}
use Rattle.obj_kinds.specs.declared.name.ClassName.{ClassName}
use Rattle.schema_kinds.specs.declared.class.Class.{Class}
use Rattle.schema_kinds.specs.declared.prop.Prop.{Prop}
use Rattle.schema_kinds.specs.declared.kind.Item.{Item}
use Rattle.schema_kinds.specs.Classes.{class_of, props_of}
use Rattle.os_kinds.specs.declared.val.Val.{Val}
use Rattle.os_kinds.specs.declared.call.Answer.{Answer}
use Rattle.os_meaning.specs.Syntax.{Name}
use Rattle.oref_table.specs.declared.slot.Slot.{Slot}
use Rattle.oref_table.specs.declared.fill.Fill.{Fill}
use Rattle.oref_table.specs.Memory.{Object, Memory, object_of, fresh, with_object}
use Rattle.obj_shape.specs.Slots.{initial_slots}
use Rattle.obj_shape.specs.Wholeness.{IsWhole, item_part}
use Rattle.prop_setting.specs.Elements.{Takes, standing, slot_set, stood}
use Rattle.object_calls.specs.Keys.{ManySide}
use Rattle.store_calls.specs.Calls.{Give}
use Rattle.host_meaning.specs.Objects.{Known}
use Rattle.object_members.specs.Seeing.{memories}
use Rattle.object_members.specs.SetLaws.{IsNoOneSide}
use Rattle.object_members.specs.MemberObjects.{objects_of}
use Rattle.object_members.specs.Writes.{one_side_set, write_prop}
use Rattle.memory_laws.specs.Kept.{IsGood}
use Rattle.known_objects.specs.Classed.{Classed, IsClassedProp, NamesKnown, IsPlainClass, HasPlainParts}

-- ---- places, and what calls hold

pub record PlacesName (classes : List Class) (known : Classed) (tries most : ℕ) (m : Memory) : Type 0 where
  pub empty : NamesKnown classes known (objects_of classes tries most).empty
  pub more : (n : ℕ) → NamesKnown classes known ((objects_of classes tries most).more n m)
  pub less : (n : ℕ) → NamesKnown classes known ((objects_of classes tries most).less n m)
  pub given : NamesKnown classes known ((objects_of classes tries most).given m)

abbrev pub PlacesNameNoMore : Type 0
PlacesNameNoMore = (classes : List Class) (known : Classed) (tries most : ℕ) (m : Memory) → NamesKnown classes known m → PlacesName classes known tries most m

pub record CallsName (classes : List Class) (known : Classed) (m : Memory) : Type 0 where
  pub held : (n : ℕ) → NamesKnown classes known ((memories classes).held n m)
  pub level : (n level : ℕ) → 2 ≤ level → NamesKnown classes known ((memories classes).with_level n level m)
  pub member : (side : ManySide) (holder member : ℕ) → NamesKnown classes known ((memories classes).with_member side holder member m)

abbrev pub CallsNameNoMore : Type 0
CallsNameNoMore = (classes : List Class) (known : Classed) (m : Memory) → NamesKnown classes known m → CallsName classes known m

-- ---- new objects

-- as `%New` makes them
abbrev pub NewObjectsNameNoMore : Type 0
NewObjectsNameNoMore =
    (classes : List Class) (known : Classed) (m : Memory) (class : ClassName) (extent : Option ClassName) → NamesKnown classes known m
    → NamesKnown classes known (with_object m (fresh m class extent None 2 (initial_slots (props_of (class_of classes class)))))

-- ---- sets

-- what names no more than known keys is put into a slot
abbrev pub SlotSetsNameNoMore : Type 0
SlotSetsNameNoMore =
    (classes : List Class) (known : Classed) (m : Memory) (n at : ℕ) (slot : Slot) (holds : List ℕ) → NamesKnown classes known m → ((p : Prop) → IsClassedProp classes known p slot)
    → NamesKnown classes known (slot_set m n at slot holds)

-- a one side is set, and the touched members of its targets are kept in step
abbrev pub OneSidesNameNoMore : Type 0
OneSidesNameNoMore =
    (classes : List Class) (known : Classed) (m : Memory) (o : Object) (at : ℕ) (side : List ℕ) (slot : Slot) (holds : List ℕ) → NamesKnown classes known m → ((p : Prop) → IsClassedProp classes known p slot)
    → NamesKnown classes known (one_side_set classes m o at side slot holds)

-- the class of the parts that the element takes has no one side
abbrev pub IsPlainItem : List Class → Item → Type 0
IsPlainItem classes i = (c : ClassName) → item_part i ≡ Some c → IsPlainClass classes c

-- an element of a property that is no one side is set as a part of the whole that stands in the slot
abbrev pub ElementsNameNoMore : Type 0
ElementsNameNoMore =
    (classes : List Class) (known : Classed) (m : Memory) (o : Object) (at : ℕ) (p : Prop) (i : Item) (shape : Slot → Slot) (w : Fill) → IsWhole classes → HasPlainParts classes → IsGood classes m → NamesKnown classes known m
    → object_of o.number m.objects ≡ Some o → slice_get (props_of (class_of classes o.class)) at ≡ Some p → IsNoOneSide p.kind → IsPlainItem classes i → Takes classes m i w
    → NamesKnown classes known (stood o.number at shape (standing classes m o.level i w))

-- a whole set that a process asks for, done or refused
abbrev pub WritesNameNoMore : Type 0
WritesNameNoMore =
    (classes : List Class) (known : Classed) (s t : Known Memory) (n : ℕ) (name : Name) (v : Val) (a : Answer) → IsWhole classes → HasPlainParts classes → IsGood classes s.memory → NamesKnown classes known s.memory
    → write_prop classes n name v s ≡ Give (t, a) → NamesKnown classes known t.memory
