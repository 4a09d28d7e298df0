use Rattle.std.proofs.Common.{◌≡◌, ◌+◌, ◌≤◌, drop}
use Rattle.dump_reading.specs.Taking.{taken}
use Rattle.dump_reading.specs.LineReading.{line_step}
use Rattle.dump_reading.proofs.line.take_line.Given as goal

-- what is left of the bytes makes of what is read what all of them make
abbrev pub invariant-loop-byte : goal.invariant-loop-byte
invariant-loop-byte l = (taken line_step l.line (drop l.byte-index l.bytes) ≡ taken line_step l.fn.line l.bytes) × (l.line.value.depth ≤ l.fn.line.value.depth + l.byte-index)
