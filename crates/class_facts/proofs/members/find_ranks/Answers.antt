use Rattle.std.proofs.Common.{ap, ◌∙◌, ◌∷◌, [], ◌++◌}
use Rattle.schema_kinds.specs.Links.{rank}
use Rattle.class_facts.proofs.FactLemmas.{count-turn}
use Rattle.class_facts.proofs.members.find_ranks.Goals as goal

pub loop-class-preserved : goal.loop-class-preserved
loop-class-preserved c =
    c.in_ok-push.ensures.ok ∙ ap (λ t. c.loop-class.ranks ++ t ∷ []) c.rank.ensures
    ∙ ap (λ l. l ++ rank c.args.hierarchy.now.above c.loop-class.class ∷ []) c.loop-class.invariant
    ∙ count-turn (λ i. rank c.args.hierarchy.now.above i) c.loop-class.class
