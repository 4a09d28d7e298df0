-- The class that a row names.
use Rattle.std.specs.Prelude.{ℕ, Bool, false, ◌&&◌, List, ◌∷◌, Option, None, Some, option_map}
use Rattle.std.specs.List.{find}
use Rattle.obj_kinds.specs.declared.name.ClassName.{ClassName}
use Rattle.obj_kinds.specs.declared.value.Value.{Value}
use Rattle.obj_kinds.specs.declared.value.Value.TheOpen.{Value-F}
use Rattle.obj_kinds.specs.declared.value.Value.TheViews.{out-Value}
use Rattle.schema_kinds.specs.declared.class.Class.{Class}
use Rattle.schema_kinds.specs.Hierarchy.{same_text}
use Rattle.schema_kinds.specs.Classes.{extent_of}
use Rattle.record_layout.specs.Rows.{marker}

abbrev pub is_extent : ClassName → Option ClassName → Bool
is_extent extent None = false
is_extent extent (Some root) = same_text root.0 extent.0

-- the mark is that of the class, and the class is in the extent
abbrev pub is_marked : List Class → ClassName → List ℕ → Class → Bool
is_marked classes extent mark c = same_text mark (marker extent c.name) && is_extent extent (extent_of classes c.name)

abbrev pub class_marked : List Class → ClassName → List ℕ → Option ClassName
class_marked classes extent mark = option_map (λ c. c.name) (find (is_marked classes extent mark) classes)

abbrev pub marked_by : List Class → ClassName → Value-F Value → Option ClassName
marked_by classes extent (Value-F.Str mark) = class_marked classes extent mark
marked_by classes extent (Value-F.List vs) = None

abbrev pub marked_in : List Class → ClassName → Value-F Value → Option ClassName
marked_in classes extent (Value-F.List (v ∷ vs)) = marked_by classes extent (out-Value v)
marked_in classes extent _ = None

-- the class that the marker of a row names
unfoldable pub row_class : List Class → ClassName → Value → Option ClassName
row_class classes extent v = marked_in classes extent (out-Value v)
