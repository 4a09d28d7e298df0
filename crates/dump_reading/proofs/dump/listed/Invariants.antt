use Rattle.std.proofs.Common.{◌≡◌, ◌++◌}
use Rattle.dump_reading.proofs.dump.listed.Given as goal

-- the pairs so far, and those that are left
abbrev pub invariant-loop-node : goal.invariant-loop-node
invariant-loop-node l = l.nodes ++ l.node-iterator ≡ l.fn.map.entries
