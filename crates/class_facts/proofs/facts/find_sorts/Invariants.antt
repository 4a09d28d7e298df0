use Rattle.std.proofs.Common.{◌≡◌, ◌++◌, map, drop, slice_get}
use Rattle.class_facts.specs.Trees.{sort_above, supers_of}
use Rattle.class_facts.proofs.facts.find_sorts.Given as goal

abbrev pub invariant-loop-top : goal.invariant-loop-top
invariant-loop-top l = l.sorts ++ map (λ t. sort_above (supers_of (slice_get l.trees t))) (drop l.top-index l.tops) ≡ map (λ t. sort_above (supers_of (slice_get l.trees t))) l.tops
