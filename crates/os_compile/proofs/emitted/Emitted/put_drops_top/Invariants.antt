use Rattle.std.proofs.Common.{◌≡◌, [], ◌∷◌, ℕ}
use Rattle.os_code.specs.Coding.{drops_top}
use Rattle.os_compile.proofs.emitted.Emitted.put_drops_top.Given as goal

abbrev pub invariant-loop : goal.invariant-loop
invariant-loop l = l.self ≡ drops_top l.counter l.fn.self
