-- What linking gives for storage.
use Rattle.std.specs.Prelude.{◌≡◌, ℕ, Bool, false, List, Some}
use Rattle.std.specs.List.{list_any}
use Rattle.obj_kinds.specs.declared.name.ClassName.{ClassName}
use Rattle.schema_kinds.specs.declared.class.Class.{Class}
use Rattle.schema_kinds.specs.declared.tree.ClassTree.{ClassTree}
use Rattle.schema_kinds.specs.Classes.{class_of, extent_of}
use Rattle.class_checks.specs.Reasons.{is_whole_type}
use Rattle.class_link.specs.Linking.{IsLinked}
use Rattle.record_layout.specs.Schemas.{IsStorable}
use Rattle.world_images.specs.Images.{AreEven, IsEvenExtent}

-- no class has the name of a data type of whole numbers; a class's own name has a package, so it has none of these
abbrev pub HasNoWholeType : List ClassTree → Type 0
HasNoWholeType trees = list_any (λ t. is_whole_type t.name) trees ≡ false

-- in a schema that was linked, each class of an extent is storable
abbrev pub LinkedIsStorable : Type 0
LinkedIsStorable =
    (trees : List ClassTree) (schema : List Class) (name extent : ClassName) → IsLinked trees schema → HasNoWholeType trees → extent_of schema name ≡ Some extent → IsStorable schema name

-- and entries of one name have as many values
abbrev pub LinkedIsEven : Type 0
LinkedIsEven =
    (trees : List ClassTree) (schema : List Class) (name extent : ClassName) → IsLinked trees schema → extent_of schema name ≡ Some extent → AreEven (class_of schema name)

-- also in all classes of an extent
abbrev pub LinkedExtentsAreEven : Type 0
LinkedExtentsAreEven = (trees : List ClassTree) (schema : List Class) (extent : ClassName) → IsLinked trees schema → IsEvenExtent schema extent
