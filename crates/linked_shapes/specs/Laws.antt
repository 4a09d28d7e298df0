-- What linking gives for the objects of a process.
use Rattle.std.specs.Prelude.{List}
use Rattle.schema_kinds.specs.declared.class.Class.{Class}
use Rattle.schema_kinds.specs.declared.tree.ClassTree.{ClassTree}
use Rattle.class_link.specs.Linking.{IsLinked}
use Rattle.obj_shape.specs.Wholeness.{IsWhole}

abbrev pub LinkedIsWhole : Type 0
LinkedIsWhole = (trees : List ClassTree) (schema : List Class) → IsLinked trees schema → IsWhole schema
