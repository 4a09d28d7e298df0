-- Calls of objects that ask no operation and leave a memory that is good and names no more keys.
use Rattle.std.specs.Prelude.{◌≡◌, ℕ, List, Some, slice_get}
use Rattle.obj_kinds.specs.declared.name.ClassName.{ClassName}
use Rattle.schema_kinds.specs.declared.class.Class.{Class}
use Rattle.schema_kinds.specs.declared.kind.Kind.{Kind}
use Rattle.schema_kinds.specs.declared.kind.Kind.TheVariants as kind
use Rattle.schema_kinds.specs.declared.prop.Prop.{Prop}
use Rattle.schema_kinds.specs.Classes.{IsBelow}
use Rattle.os_kinds.specs.declared.call.Answer.{Answer}
use Rattle.os_meaning.specs.Syntax.{Name}
use Rattle.oref_table.specs.Memory.{Object, Memory}
use Rattle.obj_shape.specs.Wholeness.{IsWhole}
use Rattle.obj_props.specs.Properties.{prop_place}
use Rattle.object_members.specs.Seeing.{props_at}
use Rattle.store_calls.specs.Calls.{Call, Give}
use Rattle.host_meaning.specs.Objects.{Known, ObjectCall}
use Rattle.memory_laws.specs.Kept.{IsGood}
use Rattle.memory_laws.specs.Made.{HasLegalInitials}
use Rattle.memory_laws.specs.Sets.{HasAt}
use Rattle.memory_laws.specs.Writes.{IsSettable}
use Rattle.known_objects.specs.Classed.{Classed, NamesKnown, HasPlainParts}

module _ (classes : List Class) (known : Classed) where
  -- good, and naming these keys alone
  pub record IsFine (m : Memory) : Type 0 where
    pub good : IsGood classes m
    pub names : NamesKnown classes known m

  -- it is at its end, and its memory is fine
  pub record EndsFine (c : Call (Known Memory × Answer)) : Type 0 where
    pub left : Known Memory
    pub answer : Answer
    pub is : c ≡ Give (left, answer)
    pub fine : IsFine left.memory

  abbrev pub IsQuiet : ObjectCall Memory → Type 0
  IsQuiet call = (s : Known Memory) → IsFine s.memory → EndsFine (call s)

-- a one side whose other side has that name in a class, and which may name an object of the class
abbrev pub NamesHolder : List Class → ClassName → Name → Kind → Type 0
NamesHolder classes class name (kind.One e side) = IsBelow classes class e × (side ≡ name)
NamesHolder classes class name _ = ⊥

-- the one side by which members of a class are in a many side of that name
abbrev pub Answers : List Class → Type 0
Answers classes =
    (class : ClassName) (name : Name) (at : ℕ) (p : Prop) (c : ClassName) (side : List ℕ) → prop_place name (props_at classes class) ≡ Some at → slice_get (props_at classes class) at ≡ Some p → p.kind ≡ kind.Many c side
    → (member : ClassName) → IsBelow classes member c → HasAt classes member (prop_place side (props_at classes member)) (NamesHolder classes class name)

-- What is asked of a schema: parts have classes without one sides, initial values are within the limits, the other side of each one side
-- has members of the class that has it, and the other side of each many side names its holder.
pub record IsSchemaOfMembers (classes : List Class) : Type 0 where
  pub whole : IsWhole classes
  pub plain : HasPlainParts classes
  pub initials : (class : ClassName) → HasLegalInitials classes class
  pub settable : (o : Object) (name : Name) → IsSettable classes o name
  pub answers : Answers classes
