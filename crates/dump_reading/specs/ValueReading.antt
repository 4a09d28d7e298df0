-- How a value is read, byte by byte: a text, a bare number, or `$lb(`, values with commas between them, and `)`.
use Rattle.std.specs.Prelude.{ℕ, ◌+◌, ◌-◌, Bool, true, false, not, ◌&&◌, ◌||◌, ◌==◌, nat_lt, if◌then◌else◌, List, [], ◌∷◌, ◌++◌, Option, None, Some, is_none, Result, Ok, Err}
use Rattle.obj_kinds.specs.declared.value.Value.{Value}
use Rattle.obj_kinds.specs.declared.value.Value.TheVariants as value
use Rattle.obj_kinds.specs.Subscript.{whole_of}
use Rattle.obj_kinds.specs.Limits.{is_legal_value}
use Rattle.dump_reading.specs.declared.place.Place.{Place}
use Rattle.dump_reading.specs.declared.place.Place.TheVariants.{Start, Dollar}
use Rattle.dump_reading.specs.declared.place.Turn.{Turn}
use Rattle.dump_reading.specs.declared.place.Turn.TheVariants.{Moves, Puts, Ends, Wrong}
use Rattle.dump_reading.specs.declared.stop.DumpWhy.{DumpWhy}
use Rattle.dump_reading.specs.declared.stop.DumpWhy.TheVariants.{BadValue}
use Rattle.dump_reading.specs.declared.value_reader.ValuePlace.{ValuePlace}
use Rattle.dump_reading.specs.declared.value_reader.ValuePlace.TheVariants as at
use Rattle.dump_reading.specs.declared.value_reader.ValueReader.{ValueReader}
use Rattle.dump_reading.specs.Places.{turn, is_bare, is_whole}
use Rattle.dump_reading.specs.Building.{with_value, closed, is_full, whole_value}

abbrev pub Stepped : Type 0
Stepped = Result ValueReader DumpWhy

abbrev pub value_start : ValueReader
value_start = record { place = at.Item Start; text = []; depth = 0; lists = [] ∷ []; is_over = false }

-- a value is read; beyond a limit none is kept
abbrev pub put_value : Bool → Value → ValueReader → ValueReader
put_value over v s = record s { text = []; lists = (if over then s.lists else with_value v s.lists); is_over = over }

-- whether a bare number has more than 18 digits
abbrev pub is_long : Bool → List ℕ → Bool
is_long bare text = bare && is_none (whole_of text)

-- the text or the number is over
abbrev pub with_item : Bool → ValueReader → ValueReader
with_item bare s = put_value (s.is_over || is_long bare s.text) (value.Str s.text) s

-- a list begins, the 17th in one another beyond the limit
abbrev pub open_at : Bool → ValueReader → ValueReader
open_at over s = record s { place = at.Opened; depth = s.depth + 1; lists = (if over then s.lists else [] ∷ s.lists); is_over = over }

abbrev pub opened : ValueReader → ValueReader
opened s = open_at (s.is_over || is_full s.lists) s

-- the innermost list ends, where one is open
abbrev pub ended : ValueReader → Stepped
ended s =
    if s.depth == 0 then Err BadValue
    else Ok (record s { place = at.Behind; depth = s.depth - 1; lists = (if s.is_over then s.lists else closed s.lists) })

-- within a list a value is followed by another one, or by the list's end
abbrev pub behind : ValueReader → ℕ → Stepped
behind s b =
    if b == 41 then ended s
    else (if b == 44 && nat_lt 0 s.depth then Ok (record s { place = at.Item Start }) else Err BadValue)

abbrev pub behind_item : Bool → ValueReader → ℕ → Stepped
behind_item bare s b = behind (with_item bare s) b

-- behind `$` stands `c` for codes, or `l` for a list
abbrev pub is_list_letter : Place → ℕ → Bool
is_list_letter Dollar b = b == 108
is_list_letter _ b = false

abbrev pub letter : Place → ValueReader → ℕ → Stepped
letter p s b = if is_list_letter p b then Ok (record s { place = at.Letter }) else Err BadValue

abbrev pub item_turn : Place → ValueReader → ℕ → Turn → Stepped
item_turn p s b (Moves q) = Ok (record s { place = at.Item q })
item_turn p s b (Puts q c) = Ok (record s { place = at.Item q; text = s.text ++ c ∷ [] })
item_turn p s b Ends = behind_item (is_bare p) s b
item_turn p s b Wrong = letter p s b

abbrev pub item : Place → ValueReader → ℕ → Stepped
item p s b = item_turn p s b (turn p b)

abbrev pub name : ValueReader → ℕ → Stepped
name s b = if b == 98 then Ok (record s { place = at.Name }) else Err BadValue

abbrev pub parenthesis : ValueReader → ℕ → Stepped
parenthesis s b = if b == 40 then Ok (opened s) else Err BadValue

abbrev pub behind_opening : ValueReader → ℕ → Stepped
behind_opening s b = if b == 41 then ended s else item Start s b

abbrev pub value_step_at : ValuePlace → ValueReader → ℕ → Stepped
value_step_at (at.Item p) s b = item p s b
value_step_at at.Letter s b = name s b
value_step_at at.Name s b = parenthesis s b
value_step_at at.Opened s b = behind_opening s b
value_step_at at.Behind s b = behind s b

-- what one more byte makes of what is read
unfoldable pub value_step : ValueReader → ℕ → Stepped
value_step s b = value_step_at s.place s b

-- whether the bytes may end here
abbrev pub ends_at : ValuePlace → Bool
ends_at (at.Item p) = is_whole p
ends_at at.Behind = true
ends_at _ = false

abbrev pub is_whole_value : ValueReader → Bool
is_whole_value s = not (nat_lt 0 s.depth) && ends_at s.place

-- with the last text or number
abbrev pub finished_at : ValuePlace → ValueReader → ValueReader
finished_at (at.Item p) s = if is_whole p then with_item (is_bare p) s else s
finished_at _ s = s

abbrev pub finished : ValueReader → ValueReader
finished s = if nat_lt 0 s.depth then s else finished_at s.place s

-- within the limits of a value
abbrev pub if_legal : Option Value → Option Value
if_legal None = None
if_legal (Some v) = if is_legal_value v then Some v else None

-- the value, where it passes no limit
abbrev pub value_in : ValueReader → Option Value
value_in s = if s.is_over then None else if_legal (whole_value s.lists)
