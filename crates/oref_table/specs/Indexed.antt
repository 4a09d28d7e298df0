-- What the table of keys says of the objects.
use Rattle.std.specs.Prelude.{Option, List, length}
use Rattle.std.specs.HashMap.{spare}
use Rattle.obj_kinds.specs.declared.name.ClassName.{ClassName}
use Rattle.oref_table.specs.declared.obj.Obj.{Obj}
use Rattle.oref_table.specs.declared.obj.Entry.{Entry}
use Rattle.oref_table.specs.declared.keys.Keys.{Keys}
use Rattle.oref_table.specs.Keys.{tags, place_of, numbers_in, IsIndexed}
use Rattle.std.specs.Option.{option_and_then}

abbrev pub IsIndexedBy : List Entry → Keys → Type 0
IsIndexedBy es k = IsIndexed (tags es) (place_of k.extents.keys) (numbers_in k.numbers.entries) (length k.numbers.entries) (spare k.numbers)

abbrev pub extent_in : Option Obj → Option ClassName
extent_in o = option_and_then (λ v. v.extent) o
