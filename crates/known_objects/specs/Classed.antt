-- The keys that a memory names: each live object's own, and the targets whose ids stand in its one sides. Each stands in a list of keys with one class.
use Rattle.std.specs.Prelude.{◌≡◌, ℕ, ◌≤◌, List, Option, None, Some, slice_get}
use Rattle.std.specs.List.{AllByRecursion}
use Rattle.obj_kinds.specs.declared.name.ClassName.{ClassName}
use Rattle.schema_kinds.specs.declared.class.Class.{Class}
use Rattle.schema_kinds.specs.declared.key.Key.{Key}
use Rattle.schema_kinds.specs.declared.kind.Kind.{Kind}
use Rattle.schema_kinds.specs.declared.kind.Kind.TheVariants as kind
use Rattle.schema_kinds.specs.declared.prop.Prop.{Prop}
use Rattle.schema_kinds.specs.Classes.{class_of, props_of, IsBelow}
use Rattle.record_layout.specs.Inverse.{EachGood, AreGood}
use Rattle.storage_map.specs.Keys.{target_key}
use Rattle.oref_table.specs.declared.slot.Slot.{Slot}
use Rattle.oref_table.specs.declared.slot.Slot.TheOpen.{Slot-F}
use Rattle.oref_table.specs.declared.slot.Slot.TheViews.{out-Slot}
use Rattle.oref_table.specs.Memory.{Object, Memory}
use Rattle.obj_shape.specs.Wholeness.{part_class}
use Rattle.object_calls.specs.Memories.{key_by}
use Rattle.object_runs.specs.Causes.{Has}
use Rattle.object_members.specs.SetLaws.{IsNoOneSide}

abbrev pub Classed : Type 0
Classed = List (Key × ClassName)

-- ---- what an object names

-- the key of a stored object stands with its class
abbrev pub IsClassedKey : Classed → Option Key → ClassName → Type 0
IsClassedKey known None class = Unit {0}
IsClassedKey known (Some key) class = Has (key, class) known

-- the target of an id stands with a class at or below the declared one
abbrev pub IsClassedTarget : List Class → Classed → ClassName → Option (List ℕ) → Type 0
IsClassedTarget classes known class None = Unit {0}
IsClassedTarget classes known class (Some id) = (c : ClassName) × Has (target_key classes class id, c) known × IsBelow classes c class

-- only one sides are asked for: a save looks up the targets of no other property
abbrev pub IsClassedSlot : List Class → Classed → Kind → Slot-F Slot → Type 0
IsClassedSlot classes known (kind.One class side) (Slot-F.Target id) = IsClassedTarget classes known class id
IsClassedSlot classes known kind s = Unit {0}

abbrev pub IsClassedProp : List Class → Classed → Prop → Slot → Type 0
IsClassedProp classes known p s = IsClassedSlot classes known p.kind (out-Slot s)

-- A live object. Levels 0 and 1 are told as low, and nothing is claimed of what is loaded at them.
pub record IsClassed (classes : List Class) (known : Classed) (o : Object) : Type 0 where
  pub level : 2 ≤ o.level
  pub key : IsClassedKey known (key_by o.extent o.id) o.class
  pub targets : AreGood (IsClassedProp classes known) (props_of (class_of classes o.class)) o.slots

-- a memory names these keys alone
abbrev pub NamesKnown : List Class → Classed → Memory → Type 0
NamesKnown classes known m = AllByRecursion (IsClassed classes known) m.objects

-- ---- what is asked of a schema

-- a class has no one side
abbrev pub IsPlainClass : List Class → ClassName → Type 0
IsPlainClass classes c = EachGood (λ p. IsNoOneSide p.kind) (props_of (class_of classes c))

-- the class of each part is such a one
abbrev pub HasPlainParts : List Class → Type 0
HasPlainParts classes = (name c : ClassName) (p : Prop) (i : ℕ) → slice_get (props_of (class_of classes name)) i ≡ Some p → part_class p.kind ≡ Some c → IsPlainClass classes c
