use Rattle.std.proofs.Common.{◌≡◌, ℕ, ◌<◌, None}
use Rattle.class_link.specs.Passes.{super_reason}
use Rattle.class_link.proofs.passes.first_super_reason.Given as goal

abbrev pub invariant-loop-class : goal.invariant-loop-class
invariant-loop-class l = (j : ℕ) → j < l.class → super_reason l.trees l.hierarchy j ≡ None
