-- One sides and the many sides that they answer to.
use Rattle.std.specs.Prelude.{◌≡◌, ℕ, List, Some}
use Rattle.obj_kinds.specs.declared.name.ClassName.{ClassName}
use Rattle.schema_kinds.specs.declared.class.Class.{Class}
use Rattle.schema_kinds.specs.declared.kind.Kind.TheVariants as kind
use Rattle.schema_kinds.specs.declared.prop.Prop.{Prop}
use Rattle.schema_kinds.specs.Classes.{IsBelow, class_of, extent_of}
use Rattle.storage_map.specs.Entries.{props_in}
use Rattle.object_calls.specs.Extents.{extent_at}
use Rattle.object_calls.specs.Keys.{ManySide, many_sides}
use Rattle.object_runs.specs.Causes.{Has}

-- a many side of the class names this one side of an extent
pub record HasOtherSide (classes : List Class) (class : ClassName) (name : List ℕ) (extent : ClassName) : Type 0 where
  pub side : ManySide
  pub has : Has side (many_sides classes class)
  pub named : side.side ≡ name
  pub members : extent_at classes side.class ≡ extent

-- each one side of a class of an extent has its other side in each class at or below the one that it names
abbrev pub ArePaired : List Class → Type 0
ArePaired classes =
    (class extent : ClassName) (p : Prop) (target : ClassName) (inverse : List ℕ) (below : ClassName) → extent_of classes class ≡ Some extent
    → Has p (props_in (class_of classes class)) → p.kind ≡ kind.One target inverse → IsBelow classes below target → HasOtherSide classes below p.name extent
