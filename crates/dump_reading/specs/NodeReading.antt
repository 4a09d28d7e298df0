-- How a node is read, byte by byte: `^`, the name of a global, and maybe subscripts in parentheses with commas between them.
use Rattle.std.specs.Prelude.{ℕ, ℤ, Bool, true, false, not, ◌&&◌, ◌||◌, ◌==◌, nat_le, if◌then◌else◌, List, [], ◌∷◌, ◌++◌, length, Option, None, Some, Result, Ok, Err}
use Rattle.obj_kinds.specs.declared.sub.Sub.{Sub}
use Rattle.obj_kinds.specs.declared.sub.Sub.TheVariants.{Num}
use Rattle.obj_kinds.specs.declared.node.Node.{Node}
use Rattle.obj_kinds.specs.Subscript.{whole_of, sub_of}
use Rattle.obj_kinds.specs.Limits.{is_global_first, is_global_byte, is_legal_node}
use Rattle.dump_reading.specs.declared.place.Place.{Place}
use Rattle.dump_reading.specs.declared.place.Place.TheVariants.{Start}
use Rattle.dump_reading.specs.declared.place.Turn.{Turn}
use Rattle.dump_reading.specs.declared.place.Turn.TheVariants.{Moves, Puts, Ends, Wrong}
use Rattle.dump_reading.specs.declared.stop.DumpWhy.{DumpWhy}
use Rattle.dump_reading.specs.declared.stop.DumpWhy.TheVariants.{BadNode}
use Rattle.dump_reading.specs.declared.node_reader.NodePlace.{NodePlace}
use Rattle.dump_reading.specs.declared.node_reader.NodePlace.TheVariants as at
use Rattle.dump_reading.specs.declared.node_reader.NodeReader.{NodeReader}
use Rattle.dump_reading.specs.Places.{turn, is_bare}

abbrev pub Stepped : Type 0
Stepped = Result NodeReader DumpWhy

abbrev pub node_start : NodeReader
node_start = record { place = at.Caret; global = []; text = []; subs = []; is_over = false }

-- where a node may end
abbrev pub may_end : NodePlace → Bool
may_end at.Name = true
may_end at.Behind = true
may_end _ = false

abbrev pub is_whole_node : NodeReader → Bool
is_whole_node s = may_end s.place

-- a bare number; none where it has more than 18 digits
abbrev pub number_or : Option ℤ → Option Sub
number_or None = None
number_or (Some z) = Some (Num z)

unfoldable pub number_sub : List ℕ → Option Sub
number_sub text = number_or (whole_of text)

-- a text of 1 to 255 bytes in quotes, which is a number where it is written like one
unfoldable pub quoted_sub : List ℕ → Option Sub
quoted_sub text = if nat_le 1 (length text) && nat_le (length text) 255 then Some (sub_of text) else None

-- the subscript of a text; none where it passes a limit
abbrev pub spelt_sub : Bool → List ℕ → Option Sub
spelt_sub bare text = if bare then number_sub text else quoted_sub text

abbrev pub caret : NodeReader → ℕ → Stepped
caret s b = if b == 94 then Ok (record s { place = at.First }) else Err BadNode

abbrev pub first : NodeReader → ℕ → Stepped
first s b = if is_global_first b then Ok (record s { place = at.Name; global = s.global ++ b ∷ [] }) else Err BadNode

-- a dot may stand within the name, and not at its end
abbrev pub in_name : ℕ → NodePlace
in_name b = if b == 46 then at.Dot else at.Name

abbrev pub name_goes_on : NodeReader → ℕ → Stepped
name_goes_on s b = if is_global_byte b then Ok (record s { place = in_name b; global = s.global ++ b ∷ [] }) else Err BadNode

abbrev pub name : NodeReader → ℕ → Stepped
name s b = if b == 40 then Ok (record s { place = at.Sub Start }) else name_goes_on s b

-- the subscript is over
abbrev pub put_sub : NodeReader → Option Sub → NodeReader
put_sub s None = record s { text = []; is_over = true }
put_sub s (Some sub) = record s { text = []; subs = s.subs ++ sub ∷ [] }

abbrev pub with_sub : Bool → NodeReader → NodeReader
with_sub bare s = put_sub s (spelt_sub bare s.text)

-- behind a subscript comes another one, or the end of them
abbrev pub behind_sub : Bool → NodeReader → ℕ → Stepped
behind_sub bare s b =
    if b == 44 then Ok (record (with_sub bare s) { place = at.Sub Start })
    else (if b == 41 then Ok (record (with_sub bare s) { place = at.Behind }) else Err BadNode)

abbrev pub sub_turn : Place → NodeReader → ℕ → Turn → Stepped
sub_turn p s b (Moves q) = Ok (record s { place = at.Sub q })
sub_turn p s b (Puts q c) = Ok (record s { place = at.Sub q; text = s.text ++ c ∷ [] })
sub_turn p s b Ends = behind_sub (is_bare p) s b
sub_turn p s b Wrong = Err BadNode

abbrev pub sub : Place → NodeReader → ℕ → Stepped
sub p s b = sub_turn p s b (turn p b)

abbrev pub node_step_at : NodePlace → NodeReader → ℕ → Stepped
node_step_at at.Caret s b = caret s b
node_step_at at.First s b = first s b
node_step_at at.Name s b = name s b
node_step_at at.Dot s b = name_goes_on s b
node_step_at (at.Sub p) s b = sub p s b
node_step_at at.Behind s b = Err BadNode

-- what one more byte makes of what is read
unfoldable pub node_step : NodeReader → ℕ → Stepped
node_step s b = node_step_at s.place s b

abbrev pub node_of : NodeReader → Node
node_of s = record { global = s.global; subs = s.subs }

-- the node, where it passes no limit
abbrev pub node_in : NodeReader → Option Node
node_in s = if s.is_over || not (is_legal_node (node_of s)) then None else Some (node_of s)
