use Rattle.class_facts.specs.Gathered.{AreGatheredTo}
use Rattle.class_facts.proofs.members.gather_rank.Given as goal

abbrev pub invariant-loop-class : goal.invariant-loop-class
invariant-loop-class l = AreGatheredTo l.trees l.hierarchy.above l.rank l.class l.done
