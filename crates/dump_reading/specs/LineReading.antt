-- How one line and one node are read, and the reasons against them.
use Rattle.std.specs.Prelude.{◌≡◌, ⊤, ℕ, true, false, ◌&&◌, ◌==◌, if◌then◌else◌, List, Option, None, Some, Result, Ok, Err}
use Rattle.obj_kinds.specs.declared.node.Node.{Node}
use Rattle.obj_kinds.specs.declared.value.Value.{Value}
use Rattle.dump_reading.specs.declared.stop.DumpWhy.{DumpWhy}
use Rattle.dump_reading.specs.declared.stop.DumpWhy.TheVariants.{BadNode, BadValue, TooLong}
use Rattle.dump_reading.specs.declared.stop.LineError.{LineError}
use Rattle.dump_reading.specs.declared.stop.LineError.TheVariants as error
use Rattle.dump_reading.specs.declared.node_reader.NodeReader.{NodeReader}
use Rattle.dump_reading.specs.declared.value_reader.ValueReader.{ValueReader}
use Rattle.dump_reading.specs.declared.line.Line.{Line}
use Rattle.dump_reading.specs.Taking.{taken}
use Rattle.dump_reading.specs.NodeReading.{node_start, node_step, is_whole_node, node_in}
use Rattle.dump_reading.specs.ValueReading.{value_start, value_step, is_whole_value, finished, value_in}

abbrev pub line_start : Line
line_start = record { node = node_start; value = value_start; is_behind = false }

abbrev pub with_node : Line → Result NodeReader DumpWhy → Result Line DumpWhy
with_node s (Ok n) = Ok (record s { node = n })
with_node s (Err why) = Err why

abbrev pub with_read : Line → Result ValueReader DumpWhy → Result Line DumpWhy
with_read s (Ok v) = Ok (record s { value = v })
with_read s (Err why) = Err why

-- `=` behind a whole node ends it
abbrev pub front_step : Line → ℕ → Result Line DumpWhy
front_step s b = if b == 61 && is_whole_node s.node then Ok (record s { is_behind = true }) else with_node s (node_step s.node b)

-- what one more byte makes of what is read
unfoldable pub line_step : Line → ℕ → Result Line DumpWhy
line_step s b = if s.is_behind then with_read s (value_step s.value b) else front_step s b

abbrev pub both_of : Option Node → Option Value → Result (Node × Value) DumpWhy
both_of (Some n) (Some v) = Ok (n, v)
both_of _ _ = Err TooLong

-- what is said where the line ends, or the reason against it
unfoldable pub said : Line → Result (Node × Value) DumpWhy
said s =
    if s.is_behind then (if is_whole_value s.value then both_of (node_in s.node) (value_in (finished s.value)) else Err BadValue)
    else Err BadNode

abbrev pub said_of : Result Line DumpWhy → Result (Node × Value) DumpWhy
said_of (Ok s) = said s
said_of (Err why) = Err why

-- what a line says
unfoldable pub line_read : List ℕ → Result (Node × Value) DumpWhy
line_read z = said_of (taken line_step line_start z)

abbrev pub node_or : Option Node → Result Node DumpWhy
node_or (Some n) = Ok n
node_or None = Err TooLong

abbrev pub node_said : Result NodeReader DumpWhy → Result Node DumpWhy
node_said (Ok s) = if is_whole_node s then node_or (node_in s) else Err BadNode
node_said (Err why) = Err why

-- the node that bytes spell
unfoldable pub node_read : List ℕ → Result Node DumpWhy
node_read z = node_said (taken node_step node_start z)

-- what is read is answered, or the reason against it, or memory ran out
abbrev pub AnswersLine : {A : Type 0} → Result A DumpWhy → Result A LineError → Type 0
AnswersLine meant (Ok a) = meant ≡ Ok a
AnswersLine meant (Err (error.Bad why)) = meant ≡ Err why
AnswersLine meant (Err error.NoMemory) = ⊤
