use Rattle.std.proofs.Common.{◌≡◌, drop}
use Rattle.global_tree.specs.FirstStep.{first_step}
use Rattle.global_tree.proofs.below.first_step.Given as goal

-- what is left has the answer
abbrev pub invariant-loop-place : goal.invariant-loop-place
invariant-loop-place l = first_step l.node (drop l.place-index l.places) ≡ first_step l.node l.places
