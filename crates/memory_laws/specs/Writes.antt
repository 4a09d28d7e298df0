-- What a set that a process asks for does: it is done or refused, asks no operation, and leaves holds outside as they were, since what is set keeps its place in the frame until the call has ended.
use Rattle.std.specs.Prelude.{◌≡◌, ℕ, true, ◌⊎◌, List, [], Some, slice_get}
use Rattle.obj_kinds.specs.declared.error_name.ErrorName.{ErrorName}
use Rattle.schema_kinds.specs.declared.class.Class.{Class}
use Rattle.schema_kinds.specs.declared.prop.Prop.{Prop}
use Rattle.schema_kinds.specs.declared.kind.Kind.{Kind}
use Rattle.schema_kinds.specs.declared.kind.Kind.TheVariants as kind
use Rattle.schema_kinds.specs.declared.kind.Item.{Item}
use Rattle.obj_kinds.specs.declared.name.ClassName.{ClassName}
use Rattle.record_layout.specs.Shapes.{single, form_of}
use Rattle.os_kinds.specs.declared.val.Val.{Val}
use Rattle.os_kinds.specs.declared.call.Answer.{Answer}
use Rattle.os_kinds.specs.declared.call.Answer.TheVariants as answer
use Rattle.os_meaning.specs.Syntax.{Name}
use Rattle.oref_table.specs.Memory.{Object, Memory, object_of}
use Rattle.obj_shape.specs.Wholeness.{IsWhole}
use Rattle.obj_props.specs.Properties.{prop_place}
use Rattle.prop_setting.specs.Elements.{standing}
use Rattle.store_calls.specs.Calls.{Give}
use Rattle.host_meaning.specs.Objects.{Known}
use Rattle.object_members.specs.Seeing.{props_at}
use Rattle.object_members.specs.Ends.{with_memory}
use Rattle.object_members.specs.Standing.{fill_with, held_for, takes}
use Rattle.object_members.specs.Writes.{prop_set, write_prop}
use Rattle.memory_laws.specs.Kept.{IsGood, Keeps}
use Rattle.memory_laws.specs.Sets.{IsInverse}

-- the many side of a one side has members of the class
abbrev pub HasInverse : List Class → ClassName → Kind → Type 0
HasInverse classes name (kind.One c side) = IsInverse classes c side name
HasInverse classes name _ = Unit {0}

-- what a set may be of, for each property of that name
abbrev pub IsSettable : List Class → Object → Name → Type 0
IsSettable classes o name =
    (at : ℕ) (p : Prop) → prop_place name (props_at classes o.class) ≡ Some at → slice_get (props_at classes o.class) at ≡ Some p → HasInverse classes o.class p.kind

-- ---- the end of a set

-- with what stands in the slot of the property then
abbrev pub set_at : List Class → Known Memory → Object → ℕ → Prop → Item → Val → Memory
set_at classes s o at p i v = prop_set classes o at p.kind (standing classes (held_for v s.memory) o.level i (fill_with v))

-- the property of that name of the object of the number takes the value, which stands there then
pub record IsDone (classes : List Class) (s : Known Memory) (n : ℕ) (name : Name) (v : Val) : Type 0 where
  pub object : Object
  pub at : ℕ
  pub prop : Prop
  pub item : Item
  pub found : object_of n s.memory.objects ≡ Some object
  pub place : prop_place name (props_at classes object.class) ≡ Some at
  pub there : slice_get (props_at classes object.class) at ≡ Some prop
  pub form : form_of prop.kind ≡ Some (single item)
  pub takes : takes classes (held_for v s.memory) item (fill_with v) ≡ true
  pub is : write_prop classes n name v s ≡ Give (with_memory (set_at classes s object at prop item v) s, answer.Done)

-- an error, and nothing is changed
abbrev pub IsRefused : List Class → Known Memory → ℕ → Name → Val → Type 0
IsRefused classes s n name v = (e : ErrorName) × (write_prop classes n name v s ≡ Give (s, answer.Error e))

abbrev pub WritesCome : Type 0
WritesCome = (classes : List Class) (s : Known Memory) (n : ℕ) (name : Name) (v : Val) → IsDone classes s n name v ⊎ IsRefused classes s n name v

-- memory stays good, whether the set is done or refused, and holds outside are as they were
abbrev pub WritesKeep : Type 0
WritesKeep =
    (classes : List Class) (s t : Known Memory) (n : ℕ) (name : Name) (v : Val) (a : Answer) → IsWhole classes → IsGood classes s.memory
    → ((o : Object) → object_of n s.memory.objects ≡ Some o → IsSettable classes o name) → write_prop classes n name v s ≡ Give (t, a) → Keeps classes s.memory t.memory [] []
