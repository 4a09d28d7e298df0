use Rattle.std.proofs.Common.{◌≡◌, ℕ}
use Rattle.os_machine.specs.Places.{places_at}
use Rattle.os_machine.specs.States.{Quiet, left}
use Rattle.os_machine.proofs.local.Local.run.Given as goal

abbrev pub invariant-steps : goal.invariant-steps
invariant-steps l = record { quiet : Quiet l.code l.fn.units l.units l.fn.self l.self; kept : (k : ℕ) → places_at k l.self ≡ places_at k l.fn.self }

abbrev pub decreases-steps : goal.decreases-steps
decreases-steps l = left l.code l.units l.self
