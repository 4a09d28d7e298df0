-- How a whole dump is read, line by line.
use Rattle.std.specs.Prelude.{◌≡◌, ⊤, ℕ, ◌-◌, nat_lt, if◌then◌else◌, List, [], ◌∷◌, length, is_some, Result, Ok, Err}
use Rattle.std.specs.BTreeMap.{BTreeMap, is_at, insert_entry}
use Rattle.std.specs.Map.{lookup}
use Rattle.obj_kinds.specs.declared.node.Node.{Node}
use Rattle.obj_kinds.specs.declared.value.Value.{Value}
use Rattle.obj_kinds.specs.Order.{node_cmp}
use Rattle.text_lines.specs.declared.stop.LineStop.{LineStop}
use Rattle.text_lines.specs.declared.stop.LineStop.TheVariants as stop
use Rattle.text_lines.specs.declared.stop.BadLine.{BadLine}
use Rattle.text_lines.specs.Lines.{lines, without_return}
use Rattle.text_lines.specs.Reading.{read_lines}
use Rattle.dump_reading.specs.declared.stop.DumpWhy.{DumpWhy}
use Rattle.dump_reading.specs.declared.stop.DumpWhy.TheVariants.{Repeated}
use Rattle.dump_reading.specs.declared.stop.DumpError.{DumpError}
use Rattle.dump_reading.specs.declared.stop.DumpError.TheVariants as error
use Rattle.dump_reading.specs.LineReading.{line_read}

abbrev pub Told : Type 0
Told = List (Node × Value)

-- A line, with so many bytes left of the text from its first on. A byte 13 at its end isn't its own where a line feed follows.
unfoldable pub own_line : ℕ → List ℕ → List ℕ
own_line left line = if nat_lt (length line) left then without_return line else line

-- a node is told once
unfoldable pub put_node : Told → Node × Value → Result Told DumpWhy
put_node nodes e = if is_some (lookup (is_at (node_cmp e.0)) nodes) then Err Repeated else Ok (insert_entry node_cmp nodes e.0 e.1)

abbrev pub put_said : Told → Result (Node × Value) DumpWhy → Result Told DumpWhy
put_said nodes (Ok e) = put_node nodes e
put_said nodes (Err why) = Err why

-- an empty line says nothing
unfoldable pub nodes_with : Told → List ℕ → Result Told DumpWhy
nodes_with nodes [] = Ok nodes
nodes_with nodes (b ∷ z) = put_said nodes (line_read (b ∷ z))

abbrev pub told_with : ℕ → Result Told DumpWhy → Result (ℕ × Told) DumpWhy
told_with left (Ok nodes) = Ok (left, nodes)
told_with left (Err why) = Err why

-- what a line says, behind the lines before it: how many bytes are left behind its line feed, and the nodes
unfoldable pub dump_step : ℕ × Told → List ℕ → Result (ℕ × Told) DumpWhy
dump_step said line = told_with (said.0 - length line - 1) (nodes_with said.1 (own_line said.0 line))

abbrev pub nodes_of : Result (ℕ × Told) (BadLine DumpWhy) → Result Told (BadLine DumpWhy)
nodes_of (Ok said) = Ok said.1
nodes_of (Err bad) = Err bad

-- the nodes of all lines in order, or the first bad line
unfoldable pub dump_read : List ℕ → Result Told (BadLine DumpWhy)
dump_read text = nodes_of (read_lines dump_step 1 (length text, []) (lines text))

-- what is read is answered, or the first bad line, or memory ran out
abbrev pub AnswersDump : Result Told (BadLine DumpWhy) → Result Told DumpError → Type 0
AnswersDump meant (Ok nodes) = meant ≡ Ok nodes
AnswersDump meant (Err (error.BadDump line why)) = meant ≡ Err (record { line = line; why = why })
AnswersDump meant (Err error.NoMemory) = ⊤

-- the same of the nodes of a map
abbrev pub SaysNodes : Result Told DumpWhy → Result (BTreeMap Node Value) (LineStop DumpWhy) → Type 0
SaysNodes meant (Ok map) = meant ≡ Ok map.entries
SaysNodes meant (Err stop.Memory) = ⊤
SaysNodes meant (Err (stop.Bad why)) = meant ≡ Err why
