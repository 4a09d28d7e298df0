use Rattle.std.proofs.Common.{◌≡◌, map, length}
use Rattle.schema_kinds.specs.Hierarchy.{top}
use Rattle.class_facts.specs.Facts.{count_from}
use Rattle.class_facts.proofs.facts.find_tops.Given as goal

abbrev pub invariant-loop-class : goal.invariant-loop-class
invariant-loop-class l = l.tops ≡ map (λ i. top (length l.hierarchy.firsts) l.hierarchy.firsts i) (count_from 0 l.class)
