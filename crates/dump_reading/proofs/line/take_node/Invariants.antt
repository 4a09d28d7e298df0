use Rattle.std.proofs.Common.{◌≡◌, drop}
use Rattle.dump_reading.specs.Taking.{taken}
use Rattle.dump_reading.specs.NodeReading.{node_step}
use Rattle.dump_reading.proofs.line.take_node.Given as goal

-- what is left of the bytes makes of what is read what all of them make
abbrev pub invariant-loop-byte : goal.invariant-loop-byte
invariant-loop-byte l = taken node_step l.node (drop l.byte-index l.bytes) ≡ taken node_step l.fn.node l.bytes
