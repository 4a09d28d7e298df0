use Rattle.std.proofs.Common.{◌≡◌}
use Rattle.store_core.specs.Tied.{fresh}
use Rattle.store_core.proofs.opening.fresh_logs.Given as goal

abbrev pub invariant-loop : goal.invariant-loop
invariant-loop l = l.logs.items ≡ fresh l.counter
