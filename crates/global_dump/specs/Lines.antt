-- How values and whole lines are written in a dump.
use Rattle.std.specs.Prelude.{ℕ, cond, List, [], ◌∷◌, ◌++◌, map, is_some, codes}
use Rattle.std.specs.List.{flat_map}
use Rattle.obj_kinds.specs.declared.node.Node.{Node}
use Rattle.obj_kinds.specs.declared.value.Value.{Value}
use Rattle.obj_kinds.specs.declared.value.Value.TheOpen.{Value-F}
use Rattle.obj_kinds.specs.declared.value.Value.TheFolds.{fold-Value}
use Rattle.obj_kinds.specs.Subscript.{whole_of}
use Rattle.obj_kinds.specs.Quoted.{quoted}
use Rattle.obj_kinds.specs.NodeText.{node_text}

-- a text that is a canonical whole number stands as it is, any other in quotes
abbrev pub text_value : List ℕ → List ℕ
text_value text = cond (is_some (whole_of text)) text (quoted text)

-- each part with a comma before it
abbrev pub more_parts : List (List ℕ) → List ℕ
more_parts [] = []
more_parts (part ∷ parts) = 44 ∷ part ++ more_parts parts

-- the parts with commas between them
abbrev pub joined : List (List ℕ) → List ℕ
joined [] = []
joined (part ∷ parts) = part ++ more_parts parts

-- one value, with the texts of a list's items in their places
abbrev pub value_step : Value-F (List ℕ) → List ℕ
value_step (Value-F.Str text) = text_value text
value_step (Value-F.List parts) = codes "$lb(" ++ joined parts ++ codes ")"

abbrev pub value_text : Value → List ℕ
value_text = fold-Value (List ℕ) value_step

abbrev pub values_text : List Value → List ℕ
values_text values = joined (map value_text values)

-- a line without its line feed: the node, `=`, the value
abbrev pub line_text : Node → Value → List ℕ
line_text n v = node_text n ++ 61 ∷ value_text v

-- the node, `=`, the value and a line feed
unfoldable pub line_of : Node → Value → List ℕ
line_of n v = node_text n ++ 61 ∷ value_text v ++ 10 ∷ []

-- a line for each node, in order
abbrev pub dump_of : List (Node × Value) → List ℕ
dump_of nodes = flat_map (λ e. line_of e.0 e.1) nodes
