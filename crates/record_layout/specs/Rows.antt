-- The nodes of a record: its row, the lists of the classes below the root, and the elements of its arrays.
use Rattle.std.specs.Prelude.{ℕ, cond, List, [], ◌∷◌, ◌++◌, map, length, take, drop, codes, Option, None, Some}
use Rattle.std.specs.List.{filter_map}
use Rattle.std.specs.FinMap.{FinMap, from_entries}
use Rattle.obj_kinds.specs.declared.name.ClassName.{ClassName}
use Rattle.obj_kinds.specs.declared.node.Node.{Node}
use Rattle.obj_kinds.specs.declared.sub.Sub.{Sub}
use Rattle.obj_kinds.specs.declared.sub.Sub.TheVariants.{Str}
use Rattle.obj_kinds.specs.declared.value.Value.{Value}
use Rattle.obj_kinds.specs.declared.value.Value.TheVariants as value
use Rattle.obj_kinds.specs.Order.{node_cmp}
use Rattle.obj_kinds.specs.Subscript.{sub_of}
use Rattle.obj_kinds.specs.Ids.{id_text}
use Rattle.schema_kinds.specs.declared.class.Class.{Class}
use Rattle.schema_kinds.specs.declared.key.Key.{Key}
use Rattle.schema_kinds.specs.declared.kind.Item.{Item}
use Rattle.schema_kinds.specs.declared.record.Field.{Field}
use Rattle.schema_kinds.specs.declared.record.Field.TheOpen.{Field-F}
use Rattle.schema_kinds.specs.declared.record.Field.TheViews.{out-Field}
use Rattle.schema_kinds.specs.declared.record.Record.{Record}
use Rattle.schema_kinds.specs.Hierarchy.{same_text}
use Rattle.record_layout.specs.Shapes.{Form}
use Rattle.record_layout.specs.Items.{item}
use Rattle.record_layout.specs.Layout.{Layout, layout_of}

abbrev pub Globals : Type 0
Globals = FinMap node_cmp Value

-- the node of a key's row: the id under the data global of its extent
unfoldable pub data_node : Key → Node
data_node key = record { global = key.extent.0 ++ codes "D"; subs = sub_of (id_text key.id) ∷ [] }

abbrev pub below : Node → List Sub → Node
below n way = record { global = n.global; subs = n.subs ++ way }

-- nothing for the root class, and `~Class~` for a class below it
unfoldable pub marker : ClassName → ClassName → List ℕ
marker extent class = cond (same_text class.0 extent.0) [] (126 ∷ class.0 ++ 126 ∷ [])

abbrev pub pairs_of : Field-F Field → Option (List (Sub × Field))
pairs_of (Field-F.Map pairs) = Some pairs
pairs_of _ = None

-- the elements of each array among the fields
abbrev pub maps_in : List Field → List (List (Sub × Field))
maps_in fields = filter_map (λ f. pairs_of (out-Field f)) fields

abbrev pub if_row : Field → Field-F Field → Option Field
if_row f (Field-F.Map pairs) = None
if_row f _ = Some f

-- the fields that are no arrays
abbrev pub rows_in : List Field → List Field
rows_in fields = filter_map (λ f. if_row f (out-Field f)) fields

-- the lists below the row take their items in turn
abbrev pub lower_nodes : List (List ℕ × List Form) → List Field → List (List Sub × Value)
lower_nodes [] fields = []
lower_nodes (l ∷ ls) fields =
    (Str l.0 ∷ [], value.List (map item (take (length l.1) fields))) ∷ lower_nodes ls (drop (length l.1) fields)

abbrev pub element_nodes : List ℕ → List (Sub × Field) → List (List Sub × Value)
element_nodes name pairs = map (λ e. (Str name ∷ e.0 ∷ [], item e.1)) pairs

abbrev pub array_nodes : List (List ℕ × Item) → List (List (Sub × Field)) → List (List Sub × Value)
array_nodes [] maps = []
array_nodes (a ∷ as') [] = []
array_nodes (a ∷ as') (pairs ∷ maps) = element_nodes a.0 pairs ++ array_nodes as' maps

-- what stands below the row, in the order in which it is read
abbrev pub nodes_below : Layout → List ℕ → List Field → List (List Sub × Value)
nodes_below layout mark fields =
    let own = rows_in fields in
    ([], value.List (value.Str mark ∷ map item (take (length layout.root) own)))
    ∷ lower_nodes layout.lower (drop (length layout.root) own) ++ array_nodes layout.arrays (maps_in fields)

unfoldable pub row_list : List Class → Key → Record → List (Node × Value)
row_list classes key r =
    map (λ e. (below (data_node key) e.0, e.1)) (nodes_below (layout_of classes r.class) (marker key.extent r.class) r.fields)

unfoldable pub rows : List Class → Key → Record → Globals
rows classes key r = from_entries (row_list classes key r)
