use Rattle.std.proofs.Common.{◌≡◌, ◌-◌}
use Rattle.global_tree.specs.Run.{emptied_in}
use Rattle.global_tree.proofs.run.empty_run.Given as goal

-- the places so far are emptied
abbrev pub invariant-loop-at : goal.invariant-loop-at
invariant-loop-at l = l.places.items ≡ emptied_in l.start (l.at - l.start) l.fn.places.items
