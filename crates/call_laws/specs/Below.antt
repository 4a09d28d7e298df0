-- Whether a class is at or below another, as a test and as the closure of superclasses.
use Rattle.std.specs.Prelude.{◌≡◌, ◌↔◌, true, List}
use Rattle.obj_kinds.specs.declared.name.ClassName.{ClassName}
use Rattle.schema_kinds.specs.declared.class.Class.{Class}
use Rattle.schema_kinds.specs.Classes.{IsBelow}
use Rattle.object_calls.specs.Extents.{is_at_or_below}

-- whatever the classes are, also where one is below itself
abbrev pub TestTellsBelow : Type 0
TestTellsBelow = (classes : List Class) (a b : ClassName) → (is_at_or_below classes a b ≡ true) ↔ IsBelow classes a b
