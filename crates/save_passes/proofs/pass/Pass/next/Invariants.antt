use Rattle.std.proofs.Common.{length, ◌-◌, ◌≡◌}
use Rattle.save_passes.specs.Passes.{asked_of, to_come}
use Rattle.save_passes.proofs.pass.Pass.next.Given as goal

-- it has the same to do as at first
abbrev pub invariant-loop-self : goal.invariant-loop-self
invariant-loop-self l = (to_come (asked_of l.of) l.self ≡ to_come (asked_of l.of) l.initial.self) × (l.self.stage ≡ l.initial.self.stage)

abbrev pub decreases-loop-self : goal.decreases-loop-self
decreases-loop-self l = length l.of.items.now - l.self.at
