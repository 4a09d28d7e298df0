-- What linking gives for runs.
use Rattle.std.specs.Prelude.{◌≡◌, ◌⊎◌, ℕ, false, List, [], ◌∷◌, Some}
use Rattle.std.specs.List.{list_any}
use Rattle.obj_kinds.specs.declared.name.ClassName.{ClassName}
use Rattle.schema_kinds.specs.declared.class.Class.{Class}
use Rattle.schema_kinds.specs.declared.class.Index.{Index}
use Rattle.schema_kinds.specs.declared.tree.ClassTree.{ClassTree}
use Rattle.schema_kinds.specs.declared.tree.PropTree.{PropTree}
use Rattle.schema_kinds.specs.Hierarchy.{same_text}
use Rattle.schema_kinds.specs.Classes.{class_of, extent_of}
use Rattle.class_link.specs.Linking.{IsLinked}
use Rattle.storage_map.specs.Entries.{indexes_of}
use Rattle.object_runs.specs.Causes.{Has}
use Rattle.object_runs.specs.Invariant.{is_side_name}
use Rattle.sound_runs.specs.Pairs.{ArePaired}
use Rattle.call_rules.specs.Schemas.{IsOnSide, IsStorableSchema}
use Rattle.linked_storage.specs.Linked.{HasNoWholeType}

-- an index that isn't unique has the name of no one side of the extent, or is on that side alone
abbrev pub LinkedIndexesAreOnSides : Type 0
LinkedIndexesAreOnSides =
    (trees : List ClassTree) (schema : List Class) (class extent : ClassName) (i : Index) → IsLinked trees schema → HasNoWholeType trees → extent_of schema class ≡ Some extent
    → Has i (indexes_of (class_of schema class)) → i.unique ≡ false → (is_side_name schema extent i.name ≡ false) ⊎ IsOnSide schema class i

-- all that is asked of a schema whose objects are stored in runs
abbrev pub LinkedIsStorableSchema : Type 0
LinkedIsStorableSchema = (trees : List ClassTree) (schema : List Class) → IsLinked trees schema → HasNoWholeType trees → IsStorableSchema schema

-- no class declares two properties of one name, as in each class file that is read
abbrev pub AreApart : List PropTree → Type 0
AreApart [] = Unit {0}
AreApart (p ∷ ps) = (list_any (λ q. same_text p.name q.name) ps ≡ false) × AreApart ps

abbrev pub HaveNoRepeats : List ClassTree → Type 0
HaveNoRepeats [] = Unit {0}
HaveNoRepeats (t ∷ ts) = AreApart t.props × HaveNoRepeats ts

-- each one side has its other side in each class at or below the one that it names
abbrev pub LinkedIsPaired : Type 0
LinkedIsPaired = (trees : List ClassTree) (schema : List Class) → IsLinked trees schema → HasNoWholeType trees → HaveNoRepeats trees → ArePaired schema
