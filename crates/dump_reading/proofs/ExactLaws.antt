-- What is read, and what is spelt within the limits, is one.
use Rattle.std.proofs.Common.{◌≡◌, ◌↔◌, ℕ, true, List, Ok}
use Rattle.obj_kinds.specs.declared.node.Node.{Node}
use Rattle.obj_kinds.specs.declared.value.Value.{Value}
use Rattle.obj_kinds.specs.Limits.{is_legal_node, is_legal_value}
use Rattle.dump_reading.specs.LineReading.{node_read, line_read}
use Rattle.dump_reading.specs.Spellings.{IsNodeSpelt, IsLineSpelt}
use Rattle.dump_reading.proofs.NodeLaws.{both}
use Rattle.dump_reading.proofs.SpeltLaws.{node_spelt_is_read, line_spelt_is_read}
use Rattle.dump_reading.proofs.NodeSound.{read_is_spelt}
use Rattle.dump_reading.proofs.LineSound.{line_is_spelt}
use Rattle.dump_reading.proofs.LimitLaws.{line_within, node_within}

pub node_exact : (n : Node) (z : List ℕ) → (node_read z ≡ Ok n) ↔ ((is_legal_node n ≡ true) × IsNodeSpelt n z)
node_exact n z = (λ e. (node_within z n e, read_is_spelt z n e), λ q. node_spelt_is_read n z q.0 q.1)

pub line_exact : (n : Node) (v : Value) (z : List ℕ) → (line_read z ≡ Ok (n, v)) ↔ ((is_legal_node n ≡ true) × (is_legal_value v ≡ true) × IsLineSpelt n v z)
line_exact n v z = (
  λ e. let w = both (is_legal_node n) (is_legal_value v) (line_within z (n, v) e) in (w.0, w.1, line_is_spelt z (n, v) e),
  λ q. line_spelt_is_read n v z q.0 q.1 q.2,
)
