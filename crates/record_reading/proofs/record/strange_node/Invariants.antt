use Rattle.std.proofs.Common.{◌≡◌, drop}
use Rattle.std.specs.List.{find}
use Rattle.record_reading.specs.Damage.{is_strange}
use Rattle.record_reading.proofs.record.strange_node.Given as goal

-- none that was passed is strange
abbrev pub invariant-loop-pair : goal.invariant-loop-pair
invariant-loop-pair l = find (is_strange l.schema l.key l.record) (drop l.pair-index l.nodes) ≡ find (is_strange l.schema l.key l.record) l.nodes
