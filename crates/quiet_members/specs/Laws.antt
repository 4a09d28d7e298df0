-- Which calls of objects ask nothing, whatever is given to them.
use Rattle.std.specs.Prelude.{◌≡◌, ◌≢◌, ℕ, List, Some, slice_get}
use Rattle.obj_kinds.specs.declared.name.ClassName.{ClassName}
use Rattle.schema_kinds.specs.declared.class.Class.{Class}
use Rattle.schema_kinds.specs.declared.prop.Prop.{Prop}
use Rattle.schema_kinds.specs.declared.kind.Kind.TheVariants as kind
use Rattle.schema_kinds.specs.declared.kind.Item.{Item}
use Rattle.schema_kinds.specs.Classes.{class_of, props_of}
use Rattle.os_kinds.specs.declared.val.Val.{Val}
use Rattle.os_meaning.specs.Syntax.{Name}
use Rattle.oref_table.specs.declared.slot.Slot.{Slot}
use Rattle.oref_table.specs.declared.slot.Slot.TheViews.{out-Slot}
use Rattle.oref_table.specs.Memory.{Object, Memory, object_of}
use Rattle.obj_shape.specs.Records.{items_of, pairs_of}
use Rattle.obj_props.specs.Properties.{prop_place}
use Rattle.object_calls.specs.Keys.{ManySide}
use Rattle.host_meaning.specs.Objects.{Known}
use Rattle.object_members.specs.ItemMembers.{ItemMember, GetAt, Insert, Next, item_member}
use Rattle.object_members.specs.Lists.{on_list}
use Rattle.object_members.specs.Arrays.{on_array}
use Rattle.object_members.specs.ManySides.{on_members}
use Rattle.object_members.specs.Members.{OpenId, DeleteId, class_member, Save, object_member, news, on_class, on_object, on_items}
use Rattle.object_members.specs.Seeing.{props_at}
use Rattle.object_members.specs.Writes.{write_prop}
use Rattle.known_objects.specs.Classed.{Classed}
use Rattle.quiet_members.specs.Quiet.{IsFine, EndsFine, IsQuiet, IsSchemaOfMembers}

-- a set of a property, done or refused
abbrev pub WritesAreQuiet : Type 0
WritesAreQuiet = (classes : List Class) (known : Classed) (n : ℕ) (name : Name) (v : Val) → IsSchemaOfMembers classes → IsQuiet classes known (write_prop classes n name v)

-- `%New` of a class of the schema
abbrev pub NewsAreQuiet : Type 0
NewsAreQuiet = (classes : List Class) (known : Classed) (tries most : ℕ) (class : ClassName) (c : Class) → IsSchemaOfMembers classes → class_of classes class ≡ Some c → IsQuiet classes known (news classes tries most class)

-- what a slot of an object is a list of
pub record IsListAt (classes : List Class) (m : Memory) (o : Object) (at : ℕ) (i : Item) (slot : Slot) : Type 0 where
  pub prop : Prop
  pub live : object_of o.number m.objects ≡ Some o
  pub there : slice_get (props_of (class_of classes o.class)) at ≡ Some prop
  pub kind : prop.kind ≡ kind.ListOf i
  pub stands : slice_get o.slots at ≡ Some slot

-- the members of a list but `GetAt`, which opens what stands there as an id
abbrev pub ListsAreQuiet : Type 0
ListsAreQuiet =
    (classes : List Class) (known : Classed) (tries most : ℕ) (s : Known Memory) (o : Object) (at : ℕ) (i : Item) (slot : Slot) (member : ItemMember) (args : List Val)
    → IsSchemaOfMembers classes → IsFine classes known s.memory → IsListAt classes s.memory o at i slot → member ≢ GetAt
    → EndsFine classes known (on_list classes tries most o at (items_of (out-Slot slot)) i member args s)

-- what a slot of an object is an array of
pub record IsArrayAt (classes : List Class) (m : Memory) (o : Object) (at : ℕ) (i : Item) (slot : Slot) : Type 0 where
  pub prop : Prop
  pub live : object_of o.number m.objects ≡ Some o
  pub there : slice_get (props_of (class_of classes o.class)) at ≡ Some prop
  pub kind : prop.kind ≡ kind.ArrayOf i
  pub stands : slice_get o.slots at ≡ Some slot

-- the members of an array but `GetAt`
abbrev pub ArraysAreQuiet : Type 0
ArraysAreQuiet =
    (classes : List Class) (known : Classed) (tries most : ℕ) (s : Known Memory) (o : Object) (at : ℕ) (i : Item) (slot : Slot) (member : ItemMember) (args : List Val)
    → IsSchemaOfMembers classes → IsFine classes known s.memory → IsArrayAt classes s.memory o at i slot → member ≢ GetAt
    → EndsFine classes known (on_array classes tries most o at (pairs_of (out-Slot slot)) i member args s)

-- a property of an object is the many side of these members
pub record IsManyAt (classes : List Class) (m : Memory) (o : Object) (side : ManySide) (name : Name) : Type 0 where
  pub at : ℕ
  pub prop : Prop
  pub live : object_of o.number m.objects ≡ Some o
  pub place : prop_place name (props_at classes o.class) ≡ Some at
  pub there : slice_get (props_at classes o.class) at ≡ Some prop
  pub kind : prop.kind ≡ kind.Many side.class side.side

-- `Insert` of a many side
abbrev pub InsertsAreQuiet : Type 0
InsertsAreQuiet =
    (classes : List Class) (known : Classed) (tries most : ℕ) (s : Known Memory) (o : Object) (side : ManySide) (name : Name) (args : List Val)
    → IsSchemaOfMembers classes → IsFine classes known s.memory → IsManyAt classes s.memory o side name → EndsFine classes known (on_members classes tries most o side name Insert args s)

-- ---- whole calls, by the names of members

-- of a class: all but `%OpenId` and `%DeleteId`
abbrev pub ClassesAreQuiet : Type 0
ClassesAreQuiet =
    (classes : List Class) (known : Classed) (tries most : ℕ) (class : ClassName) (name : Name) (args : List Val) → IsSchemaOfMembers classes → class_member name ≢ OpenId → class_member name ≢ DeleteId
    → IsQuiet classes known (on_class classes tries most class name args)

-- of an object: all but `%Save` and these two
abbrev pub ObjectsAreQuiet : Type 0
ObjectsAreQuiet =
    (classes : List Class) (known : Classed) (tries most : ℕ) (n : ℕ) (name : Name) (args : List Val) → IsSchemaOfMembers classes → object_member name ≢ Save → class_member name ≢ OpenId → class_member name ≢ DeleteId
    → IsQuiet classes known (on_object classes tries most n name args)

-- of a collection or a many side: all but `GetAt` and `Next`
abbrev pub ItemsAreQuiet : Type 0
ItemsAreQuiet =
    (classes : List Class) (known : Classed) (tries most : ℕ) (n : ℕ) (property name : Name) (args : List Val) → IsSchemaOfMembers classes → item_member name ≢ GetAt → item_member name ≢ Next
    → IsQuiet classes known (on_items classes tries most n property name args)
