-- The image of a world of text objects: its rows, and the counter of its ids.
use Rattle.std.specs.Prelude.{ℕ, suc, pos, List, [], ◌∷◌, ◌++◌, length, map, codes}
use Rattle.std.specs.Fmt.{decimal}
use Rattle.std.specs.FinMap as finmap
use Rattle.obj_kinds.specs.declared.sub.Sub.TheVariants as sub
use Rattle.obj_kinds.specs.declared.node.Node.{Node}
use Rattle.obj_kinds.specs.declared.value.Value.{Value}
use Rattle.obj_kinds.specs.declared.value.Value.TheVariants as value
use Rattle.obj_kinds.specs.Order.{node_cmp}

-- a tree of globals
abbrev pub Globals : Type 0
Globals = finmap.FinMap node_cmp Value

-- the data global of a class has its name and `D`
abbrev pub data_global : List ℕ → List ℕ
data_global class = class ++ codes "D"

-- the counter of the class's ids
abbrev pub counter_node : List ℕ → Node
counter_node class = record { global = data_global class; subs = [] }

-- the row of the object with this id
abbrev pub row_node : List ℕ → ℕ → Node
row_node class id = record { global = data_global class; subs = sub.Num (pos id) ∷ [] }

-- a row is a list: the empty marker of the class itself, and then the fields
abbrev pub row_of : List (List ℕ) → Value
row_of fields = value.List (value.Str [] ∷ map value.Str fields)

-- the rows of the objects, under the ids from this one on
abbrev pub rows_from : List ℕ → ℕ → List (List (List ℕ)) → List (Node × Value)
rows_from class id [] = []
rows_from class id (fields ∷ world) = (row_node class id, row_of fields) ∷ rows_from class (suc id) world

-- where an object was saved, the counter tells how many there are
abbrev pub counter_of : List ℕ → List (List (List ℕ)) → List (Node × Value)
counter_of class [] = []
counter_of class (fields ∷ world) = (counter_node class, value.Str (decimal (length (fields ∷ world)))) ∷ []

-- the counter, and each object's row under its id
unfoldable pub image : List ℕ → List (List (List ℕ)) → Globals
image class world = finmap.from_entries (counter_of class world ++ rows_from class 1 world)
