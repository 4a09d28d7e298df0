-- What linking gives of the classes of a schema: none has more properties than a class may have, and the classes of parts
-- are among them.
use Rattle.std.specs.Prelude.{◌≡◌, ◌≤◌, ℕ, IsSome, List, Option, None, Some, length, slice_get}
use Rattle.obj_kinds.specs.declared.name.ClassName.{ClassName}
use Rattle.schema_kinds.specs.declared.class.Class.{Class}
use Rattle.schema_kinds.specs.declared.prop.Prop.{Prop}
use Rattle.schema_kinds.specs.declared.kind.Kind.{Kind}
use Rattle.schema_kinds.specs.declared.kind.Kind.TheVariants as kind
use Rattle.schema_kinds.specs.declared.kind.Item.{Item}
use Rattle.schema_kinds.specs.declared.kind.Item.TheVariants as of
use Rattle.schema_kinds.specs.Classes.{class_of, props_of}

abbrev pub item_part : Item → Option ClassName
item_part (of.Serial c) = Some c
item_part _ = None

-- the class of the parts that a property has
abbrev pub part_class : Kind → Option ClassName
part_class (kind.Serial c) = Some c
part_class (kind.ListOf i) = item_part i
part_class (kind.ArrayOf i) = item_part i
part_class _ = None

pub record IsWhole (classes : List Class) : Type 0 where
  pub few : (name : ClassName) → length (props_of (class_of classes name)) ≤ 200
  pub parts : (name c : ClassName) (p : Prop) (i : ℕ) → slice_get (props_of (class_of classes name)) i ≡ Some p → part_class p.kind ≡ Some c → IsSome (class_of classes c)
