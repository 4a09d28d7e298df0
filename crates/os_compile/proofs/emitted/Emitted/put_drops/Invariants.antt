use Rattle.std.proofs.Common.{◌≡◌, [], ◌∷◌, ℕ}
use Rattle.os_code.specs.Coding.{drops}
use Rattle.os_compile.proofs.emitted.Emitted.put_drops.Given as goal

abbrev pub invariant-loop : goal.invariant-loop
invariant-loop l = l.self ≡ drops l.counter l.fn.self
