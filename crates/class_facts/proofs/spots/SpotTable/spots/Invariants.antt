use Rattle.std.proofs.Common.{◌≡◌, take}
use Rattle.class_facts.specs.Trees.{spots_in}
use Rattle.class_facts.proofs.spots.SpotTable.spots.Given as goal

-- the spots so far are copied
abbrev pub invariant-loop-place : goal.invariant-loop-place
invariant-loop-place l = l.spots ≡ take l.place (spots_in l.self)
