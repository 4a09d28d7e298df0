-- The data types.
use Rattle.std.specs.Prelude.{cond, codes, Option, Some, None}
use Rattle.obj_kinds.specs.declared.name.ClassName.{ClassName}
use Rattle.schema_kinds.specs.declared.kind.Item.{Item}
use Rattle.schema_kinds.specs.declared.kind.Item.TheVariants.{Text, Whole, Truth}
use Rattle.schema_kinds.specs.Hierarchy.{same_text}

-- the kinds of the data types
abbrev pub data_item : ClassName → Option Item
data_item name =
    cond (same_text name.0 (codes "%String")) (Some Text)
    (cond (same_text name.0 (codes "%Integer")) (Some Whole)
    (cond (same_text name.0 (codes "%Date")) (Some Whole)
    (cond (same_text name.0 (codes "%Boolean")) (Some Truth) None)))
