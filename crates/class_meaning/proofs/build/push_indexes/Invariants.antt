use Rattle.std.proofs.Common.{◌≡◌, ◌++◌, drop, filter_map}
use Rattle.class_facts.specs.Trees.{index_at, spots_in}
use Rattle.class_meaning.proofs.build.push_indexes.Given as goal

abbrev pub invariant-loop-pair : goal.invariant-loop-pair
invariant-loop-pair l =
    l.indexes ++ filter_map (index_at l.trees) (spots_in (drop l.pair-index l.pairs)) ≡ l.initial.indexes ++ filter_map (index_at l.trees) (spots_in l.pairs)
