use Rattle.std.proofs.Common.{◌≡◌, false}
use Rattle.load_plan.specs.Loads.{is_told}
use Rattle.load_cases.proofs.play.load_on.Given as goal

-- the answer wasn't handed out yet
abbrev pub invariant-loop : goal.invariant-loop
invariant-loop l = is_told l.plan.phase ≡ false
