use Rattle.std.proofs.Common.{◌≡◌, false}
use Rattle.load_plan.specs.Loads.{is_told}
use Rattle.storage_bench.proofs.loads.is_played.Given as goal

-- the answer wasn't handed out yet
abbrev pub invariant-loop : goal.invariant-loop
invariant-loop l = is_told l.plan.phase ≡ false
