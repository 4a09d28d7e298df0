use Rattle.std.proofs.Common.{◌≡◌, map}
use Rattle.schema_kinds.specs.Links.{rank}
use Rattle.class_facts.specs.Facts.{count_from}
use Rattle.class_facts.proofs.members.find_ranks.Given as goal

abbrev pub invariant-loop-class : goal.invariant-loop-class
invariant-loop-class l = l.ranks ≡ map (λ i. rank l.hierarchy.above i) (count_from 0 l.class)
