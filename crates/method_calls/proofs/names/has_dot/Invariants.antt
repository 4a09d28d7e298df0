use Rattle.std.proofs.Common.{◌≡◌, drop}
use Rattle.host_meaning.specs.Methods.{has_dot}
use Rattle.method_calls.proofs.names.has_dot.Given as goal

-- no dot was met
abbrev pub invariant-loop-byte : goal.invariant-loop-byte
invariant-loop-byte l = has_dot (drop l.byte-index l.name) ≡ has_dot l.name
