use Rattle.std.proofs.Common.{◌≡◌, ◌++◌, drop}
use Rattle.class_facts.specs.Spots.{fresh_spots}
use Rattle.class_facts.proofs.members.push_fresh.Given as goal

abbrev pub invariant-loop-pair : goal.invariant-loop-pair
invariant-loop-pair l = l.pairs ++ fresh_spots l.names (drop l.pair-index l.more) ≡ l.initial.pairs ++ fresh_spots l.names l.more
