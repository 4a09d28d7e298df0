use Rattle.class_facts.specs.Gathered.{AreGatheredTo}
use Rattle.class_facts.proofs.members.gather_all.Given as goal

abbrev pub invariant-loop-rank : goal.invariant-loop-rank
invariant-loop-rank l = AreGatheredTo l.trees l.hierarchy.above l.rank 0 l.done
