-- Nodes, lines and dumps that are written are read back.
use Rattle.std.specs.Prelude.{◌≡◌, ◌↔◌, ℕ, Bool, true, ◌&&◌, List, Ok, IsTrue}
use Rattle.std.specs.List.{list_all}
use Rattle.std.specs.FinMap.{is_sorted}
use Rattle.obj_kinds.specs.declared.node.Node.{Node}
use Rattle.obj_kinds.specs.declared.value.Value.{Value}
use Rattle.obj_kinds.specs.Order.{node_cmp}
use Rattle.obj_kinds.specs.Limits.{is_legal_node, is_legal_value}
use Rattle.obj_kinds.specs.NodeText.{node_text}
use Rattle.global_dump.specs.Lines.{line_text, dump_of}
use Rattle.dump_reading.specs.LineReading.{node_read, line_read}
use Rattle.dump_reading.specs.DumpReading.{dump_read}
use Rattle.dump_reading.specs.Spellings.{IsNodeSpelt, IsLineSpelt}

-- a node within its limits is read from its text
abbrev pub NodesAreReadBack : Type 0
NodesAreReadBack = (n : Node) → is_legal_node n ≡ true → node_read (node_text n) ≡ Ok n

-- a node and a value within their limits are read from their line
abbrev pub LinesAreReadBack : Type 0
LinesAreReadBack = (n : Node) (v : Value) → is_legal_node n ≡ true → is_legal_value v ≡ true → line_read (line_text n v) ≡ Ok (n, v)

-- a node and a value within their limits
abbrev pub is_within : Node × Value → Bool
is_within e = is_legal_node e.0 && is_legal_value e.1

-- nodes in rising order with their values, all within their limits, are read from their dump
abbrev pub DumpsAreReadBack : Type 0
DumpsAreReadBack = (nodes : List (Node × Value)) → IsTrue (is_sorted node_cmp nodes) → list_all is_within nodes ≡ true → dump_read (dump_of nodes) ≡ Ok nodes

-- a node is read exactly where the bytes are one of its spellings, and it is within its limits
abbrev pub NodesAreExact : Type 0
NodesAreExact = (n : Node) (z : List ℕ) → (node_read z ≡ Ok n) ↔ ((is_legal_node n ≡ true) × IsNodeSpelt n z)

-- a node and a value are read exactly where the bytes are one of the spellings of their line, and they are within their limits
abbrev pub LinesAreExact : Type 0
LinesAreExact = (n : Node) (v : Value) (z : List ℕ) → (line_read z ≡ Ok (n, v)) ↔ ((is_legal_node n ≡ true) × (is_legal_value v ≡ true) × IsLineSpelt n v z)
