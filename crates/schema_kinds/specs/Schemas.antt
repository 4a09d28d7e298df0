-- What a schema keeps beside its classes.
use Rattle.std.specs.Prelude.{◌≡◌, ℕ, List, []}
use Rattle.schema_kinds.specs.declared.class.Class.{Class}
use Rattle.schema_kinds.specs.declared.hierarchy.Hierarchy.{Hierarchy}
use Rattle.schema_kinds.specs.Hierarchy.{IsHierarchyOf}
use Rattle.schema_kinds.specs.Classes.{headers_of, class_names}
use Rattle.schema_kinds.specs.OwnGlobals.{put_all_globals}

-- the tables say what the classes say
pub record IsSchema (classes : List Class) (h : Hierarchy) (globals : List (List ℕ)) : Type 0 where
  pub hierarchy : IsHierarchyOf (headers_of classes) h
  pub globals_of : globals ≡ put_all_globals (class_names classes) classes []
