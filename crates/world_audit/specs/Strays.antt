-- Nodes that belong to no key, or to a key whose record hasn't them.
use Rattle.std.specs.Prelude.{Bool, cond, List, [], ◌∷◌, Option, None, Some, option_to_list}
use Rattle.std.specs.FinMap.{find}
use Rattle.obj_kinds.specs.declared.node.Node.{Node}
use Rattle.schema_kinds.specs.declared.class.Class.{Class}
use Rattle.schema_kinds.specs.declared.key.Key.{Key}
use Rattle.schema_kinds.specs.Worlds.{key_cmp}
use Rattle.record_layout.specs.Rows.{data_node}
use Rattle.world_audit.specs.declared.found.Found.{Found}
use Rattle.world_audit.specs.declared.found.Found.TheVariants.{Whole, Broken}
use Rattle.world_audit.specs.Finds.{Finds}
use Rattle.world_audit.specs.Least.{noted}
use Rattle.world_audit.specs.Objects.{Told}
use Rattle.world_audit.specs.Openings.{is_object_node}
use Rattle.world_audit.specs.Owners.{row_key, entry_owner}

-- the row, where no node of the key is there; nothing where its nodes are broken anyway; else the node itself
abbrev pub of_found : Node → Key → Option Found → Option Node
of_found n key None = Some (data_node key)
of_found n key (Some (Broken d)) = None
of_found n key (Some (Whole r)) = Some n

abbrev pub of_owner : Finds → Node → Option Key → Option Node
of_owner finds n None = Some n
of_owner finds n (Some key) = of_found n key (find key_cmp key finds)

-- a node at a row or below it is one of its key's
abbrev pub of_row : List Class → Finds → Node → Option Key → Option Node
of_row classes finds n (Some key) = None
of_row classes finds n None = of_owner finds n (entry_owner classes n)

-- the fault by a node that is no whole record's entry
abbrev pub stray_at : List Class → Finds → Node → Option Node
stray_at classes finds n = cond (is_object_node classes n) (of_row classes finds n (row_key classes n)) None

abbrev pub stray_of : List Class → Finds → Node → Bool → Option Node
stray_of classes finds n marked = cond marked None (stray_at classes finds n)

abbrev pub note_strays : List Class → Finds → Option Node → Told → List Bool → Option Node
note_strays classes finds least [] marks = least
note_strays classes finds least (e ∷ es) [] = least
note_strays classes finds least (e ∷ es) (m ∷ ms) = note_strays classes finds (noted least (option_to_list (stray_of classes finds e.0 m))) es ms
