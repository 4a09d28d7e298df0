use Rattle.std.proofs.Common.{◌≡◌}
use Rattle.method_table.specs.Places.{rounds}
use Rattle.method_table.proofs.gather.gather_all.Given as goal

-- what is known is that of so many rounds
abbrev pub invariant-loop-made : goal.invariant-loop-made
invariant-loop-made l = l.tables ≡ rounds l.schema l._made
