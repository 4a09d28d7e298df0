-- Which nodes are entries of whole records, and which entries are lacking.
use Rattle.std.specs.Prelude.{Bool, true, false, not, ◌||◌, List, [], ◌∷◌, filter, Option, None, Some}
use Rattle.std.specs.Ordering.{eq_by_cmp}
use Rattle.std.specs.FinMap.{find}
use Rattle.obj_kinds.specs.declared.node.Node.{Node}
use Rattle.obj_kinds.specs.declared.value.Value.{Value}
use Rattle.obj_kinds.specs.declared.value.Value.TheOpen.{Value-F}
use Rattle.obj_kinds.specs.declared.value.Value.TheViews.{out-Value}
use Rattle.obj_kinds.specs.Order.{node_cmp}
use Rattle.schema_kinds.specs.declared.class.Class.{Class}
use Rattle.schema_kinds.specs.declared.key.Key.{Key}
use Rattle.storage_map.specs.Entries.{entry_list}
use Rattle.world_audit.specs.declared.found.Found.{Found}
use Rattle.world_audit.specs.Objects.{Told}
use Rattle.world_audit.specs.Finds.{Finds, of_whole}

abbrev pub is_no_text : Value-F Value → Bool
is_no_text (Value-F.Str []) = true
is_no_text (Value-F.Str (byte ∷ text)) = false
is_no_text (Value-F.List vs) = false

-- an entry is there, with the empty text
abbrev pub is_entered : Option Value → Bool
is_entered None = false
is_entered (Some v) = is_no_text (out-Value v)

-- the entries that aren't there
abbrev pub lacking : Told → List Node → List Node
lacking nodes ns = filter (λ n. not (is_entered (find node_cmp n nodes))) ns

-- the entries of a whole record
abbrev pub entries_of : List Class → Key × Found → List Node
entries_of classes e = of_whole e.1 (entry_list classes e.0)

abbrev pub lacking_of : List Class → Told → Key × Found → List Node
lacking_of classes nodes e = lacking nodes (entries_of classes e)

-- a mark at the node
abbrev pub mark : Told → Node → List Bool → List Bool
mark [] n marks = marks
mark (e ∷ es) n [] = []
mark (e ∷ es) n (m ∷ ms) = (m || eq_by_cmp node_cmp n e.0) ∷ mark es n ms

abbrev pub mark_all : Told → List Bool → List Node → List Bool
mark_all nodes marks [] = marks
mark_all nodes marks (n ∷ ns) = mark_all nodes (mark nodes n marks) ns

-- marks at the entries of all whole records
abbrev pub mark_finds : List Class → Told → List Bool → Finds → List Bool
mark_finds classes nodes marks [] = marks
mark_finds classes nodes marks (e ∷ es) = mark_finds classes nodes (mark_all nodes marks (entries_of classes e)) es

abbrev pub no_marks : Told → List Bool
no_marks [] = []
no_marks (e ∷ es) = false ∷ no_marks es
