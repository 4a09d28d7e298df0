-- The two ways in which a node belongs to a key: as a row or a node below one, and as an entry.
use Rattle.std.specs.Prelude.{cond, nat_eq, List, length, Option, None, Some}
use Rattle.std.specs.Option.{option_and_then}
use Rattle.obj_kinds.specs.declared.name.ClassName.{ClassName}
use Rattle.obj_kinds.specs.declared.sub.Sub.{Sub}
use Rattle.obj_kinds.specs.declared.node.Node.{Node}
use Rattle.schema_kinds.specs.declared.class.Class.{Class}
use Rattle.schema_kinds.specs.declared.key.Key.{Key}
use Rattle.schema_kinds.specs.Classes.{class_names}
use Rattle.storage_map.specs.Worlds.{id_of_sub, extent_with, first_sub, key_at, entry_key}

-- the key in an extent whose id a subscript is; the ids of all extents have one number
abbrev pub single_key : Option Sub → ClassName → Option Key
single_key sub extent = option_and_then (λ id. cond (nat_eq (length id) 1) (Some (record { extent = extent; id = id })) None) (option_and_then id_of_sub sub)

-- of a data node its first subscript tells the key
unfoldable pub row_key : List Class → Node → Option Key
row_key classes n = option_and_then (key_at classes (first_sub n.subs)) (extent_with (class_names classes) 68 n.global classes)

-- of a node of the index global its last one
unfoldable pub entry_owner : List Class → Node → Option Key
entry_owner classes n = option_and_then (entry_key classes n.subs) (extent_with (class_names classes) 73 n.global classes)
