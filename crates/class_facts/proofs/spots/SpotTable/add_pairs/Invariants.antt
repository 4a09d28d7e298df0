use Rattle.std.proofs.Common.{◌≡◌, drop}
use Rattle.class_facts.specs.Spots.{add_spots}
use Rattle.class_facts.proofs.spots.SpotTable.add_pairs.Given as goal

-- what is left to add makes the same table
abbrev pub invariant-loop-pair : goal.invariant-loop-pair
invariant-loop-pair l = add_spots l.self (drop l.pair-index l.pairs) ≡ add_spots l.initial.self l.pairs
