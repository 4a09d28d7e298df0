use Rattle.std.proofs.Common.{◌≡◌, ◌+◌, length, subst, arith}
use Rattle.class_facts.specs.Gathered.{AreGatheredTo}
use Rattle.class_facts.proofs.Gathering.{gathered-end}
use Rattle.class_facts.proofs.members.gather_all.Goals as goal

pub returns : goal.returns
returns c =
    let last : c.loop-rank.rank ≡ length c.args.trees.now + 1 = omega arith in
    gathered-end c.args.trees.now c.args.hierarchy.now c.requires.hierarchy c.requires.no_ring c.loop-rank.done
    (subst (λ r. AreGatheredTo c.args.trees.now c.args.hierarchy.now.above r 0 c.loop-rank.done) last c.loop-rank.invariant)
