use Rattle.std.proofs.Common.{◌≡◌, ◌++◌, drop}
use Rattle.class_facts.specs.Trees.{index_spots}
use Rattle.class_facts.proofs.members.push_indexes.Given as goal

abbrev pub invariant-loop-place : goal.invariant-loop-place
invariant-loop-place l = l.pairs ++ index_spots l.class l.place (drop l.place l.indexes) ≡ l.initial.pairs ++ index_spots l.class 0 l.indexes
