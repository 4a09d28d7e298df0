use Rattle.std.proofs.Common.{◌≡◌, ◌++◌, drop, filter_map}
use Rattle.class_facts.specs.Trees.{spots_in}
use Rattle.class_extents.specs.Extents.{index_entry}
use Rattle.class_extents.proofs.entries.push_index_entries.Given as goal

abbrev pub invariant-loop-pair : goal.invariant-loop-pair
invariant-loop-pair l = l.entries ++ filter_map (index_entry l.trees l.all) (spots_in (drop l.pair-index l.pairs)) ≡ l.initial.entries ++ filter_map (index_entry l.trees l.all) (spots_in l.pairs)
