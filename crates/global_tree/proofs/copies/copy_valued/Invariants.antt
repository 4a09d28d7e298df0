use Rattle.std.proofs.Common.{◌≡◌, ◌++◌, drop}
use Rattle.global_tree.specs.Places.{part, value_in}
use Rattle.global_tree.proofs.copies.copy_valued.Given as goal

-- what is copied, and then what is left to copy
abbrev pub invariant-loop-place : goal.invariant-loop-place
invariant-loop-place l = l.nodes ++ part value_in (drop l.place-index l.places) ≡ part value_in l.places
