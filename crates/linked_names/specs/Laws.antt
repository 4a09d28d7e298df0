-- What linking gives for the names of members.
use Rattle.std.specs.Prelude.{◌≡◌, ℕ, false, List, Some}
use Rattle.obj_kinds.specs.declared.name.ClassName.{ClassName}
use Rattle.schema_kinds.specs.declared.class.Class.{Class}
use Rattle.schema_kinds.specs.declared.class.Index.{Index}
use Rattle.schema_kinds.specs.declared.kind.Kind.TheVariants as kind
use Rattle.schema_kinds.specs.declared.prop.Prop.{Prop}
use Rattle.schema_kinds.specs.declared.tree.ClassTree.{ClassTree}
use Rattle.schema_kinds.specs.Classes.{class_of, extent_of}
use Rattle.class_link.specs.Linking.{IsLinked}
use Rattle.record_layout.specs.Layout.{layout_of}
use Rattle.record_layout.specs.Shapes.{forms_of}
use Rattle.storage_map.specs.Entries.{indexes_of, props_in}
use Rattle.object_runs.specs.Causes.{Has}
use Rattle.object_runs.specs.Invariant.{is_unique_name}
use Rattle.sound_runs.specs.Taken.{HasApartIndexes}
use Rattle.linked_storage.specs.Linked.{HasNoWholeType}

-- the fields of a record are those of the class's own properties
abbrev pub LinkedFormsAreOwn : Type 0
LinkedFormsAreOwn =
    (trees : List ClassTree) (schema : List Class) (name extent : ClassName) → IsLinked trees schema → HasNoWholeType trees → extent_of schema name ≡ Some extent
    → (layout_of schema name).forms ≡ forms_of (props_in (class_of schema name))

-- no one side of an extent has the name of a unique index of it
abbrev pub LinkedSidesAreApart : Type 0
LinkedSidesAreApart =
    (trees : List ClassTree) (schema : List Class) (class extent : ClassName) (p : Prop) (target : ClassName) (inverse : List ℕ) → IsLinked trees schema → extent_of schema class ≡ Some extent
    → Has p (props_in (class_of schema class)) → p.kind ≡ kind.One target inverse → is_unique_name schema extent p.name ≡ false

-- and no index that isn't unique
abbrev pub LinkedIndexesAreApart : Type 0
LinkedIndexesAreApart =
    (trees : List ClassTree) (schema : List Class) (class extent : ClassName) (i : Index) → IsLinked trees schema → extent_of schema class ≡ Some extent
    → Has i (indexes_of (class_of schema class)) → i.unique ≡ false → is_unique_name schema extent i.name ≡ false

-- the unique indexes of a class of an extent have different names
abbrev pub LinkedHasApartIndexes : Type 0
LinkedHasApartIndexes = (trees : List ClassTree) (schema : List Class) (class extent : ClassName) → IsLinked trees schema → extent_of schema class ≡ Some extent → HasApartIndexes schema class
