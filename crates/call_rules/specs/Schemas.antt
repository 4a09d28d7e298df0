-- What is asked of a schema: each class of an extent has a place for each field, entries of one name in an extent have as many values, no index or one
-- side of an extent shares its name with a unique index of it, and an index that has the name of a one side is on that side alone.
use Rattle.std.specs.Prelude.{◌≡◌, ◌⊎◌, ℕ, true, false, List, [], ◌∷◌, Some}
use Rattle.obj_kinds.specs.declared.name.ClassName.{ClassName}
use Rattle.schema_kinds.specs.declared.class.Class.{Class}
use Rattle.schema_kinds.specs.declared.class.Index.{Index}
use Rattle.schema_kinds.specs.declared.kind.Kind.TheVariants as kind
use Rattle.schema_kinds.specs.declared.prop.Prop.{Prop}
use Rattle.schema_kinds.specs.Classes.{class_of, extent_of}
use Rattle.schema_kinds.specs.Hierarchy.{same_text}
use Rattle.record_layout.specs.Layout.{layout_of}
use Rattle.record_layout.specs.Shapes.{forms_of}
use Rattle.record_layout.specs.Schemas.{IsStorable}
use Rattle.storage_map.specs.Entries.{indexes_of, props_in}
use Rattle.world_images.specs.Images.{IsEvenExtent}
use Rattle.object_runs.specs.Causes.{Has}
use Rattle.object_runs.specs.Invariant.{is_unique_name, is_side_name}

-- the index is on the one side of its name alone
pub record IsOnSide (classes : List Class) (class : ClassName) (i : Index) : Type 0 where
  pub alone : i.props ≡ i.name ∷ []
  pub side : (p : Prop) → Has p (props_in (class_of classes class)) → same_text i.name p.name ≡ true → (target : ClassName) × (inverse : List ℕ) × (p.kind ≡ kind.One target inverse)

pub record IsStorableSchema (classes : List Class) : Type 0 where
  pub storable : (name extent : ClassName) → extent_of classes name ≡ Some extent → IsStorable classes name
  -- the fields of a record are those of the class's own properties, as they were gathered
  pub forms : (name extent : ClassName) → extent_of classes name ≡ Some extent → (layout_of classes name).forms ≡ forms_of (props_in (class_of classes name))
  pub even : (extent : ClassName) → IsEvenExtent classes extent
  pub plain : (class extent : ClassName) (i : Index) → extent_of classes class ≡ Some extent → Has i (indexes_of (class_of classes class)) → i.unique ≡ false
      → (is_unique_name classes extent i.name ≡ false) × ((is_side_name classes extent i.name ≡ false) ⊎ IsOnSide classes class i)
  pub sides : (class extent : ClassName) (p : Prop) (target : ClassName) (inverse : List ℕ) → extent_of classes class ≡ Some extent → Has p (props_in (class_of classes class))
      → p.kind ≡ kind.One target inverse → is_unique_name classes extent p.name ≡ false
