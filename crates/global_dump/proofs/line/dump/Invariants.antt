use Rattle.std.proofs.Common.{◌≡◌, take}
use Rattle.global_dump.specs.Lines.{dump_of}
use Rattle.global_dump.proofs.line.dump.Given as goal

-- the lines so far
abbrev pub invariant-loop-node : goal.invariant-loop-node
invariant-loop-node l = l.out ≡ dump_of (take l.node-index l.nodes)
