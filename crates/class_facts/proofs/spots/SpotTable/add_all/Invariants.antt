use Rattle.std.proofs.Common.{◌≡◌, take}
use Rattle.class_facts.specs.Spots.{add_spots}
use Rattle.class_facts.proofs.spots.SpotTable.add_all.Given as goal

abbrev pub invariant-loop-place : goal.invariant-loop-place
invariant-loop-place l = l.self ≡ add_spots l.initial.self (take l.place l.other)
