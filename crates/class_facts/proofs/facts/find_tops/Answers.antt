use Rattle.std.proofs.Common.{length, ap, ◌∙◌, ◌∷◌, [], ◌++◌}
use Rattle.schema_kinds.specs.Hierarchy.{top}
use Rattle.class_facts.proofs.FactLemmas.{count-turn}
use Rattle.class_facts.proofs.facts.find_tops.Goals as goal

pub loop-class-preserved : goal.loop-class-preserved
loop-class-preserved c =
    c.in_ok-push.ensures.ok ∙ ap (λ t. c.loop-class.tops ++ t ∷ []) c.top.ensures
    ∙ ap (λ l. l ++ top (length c.args.hierarchy.now.firsts) c.args.hierarchy.now.firsts c.loop-class.class ∷ []) c.loop-class.invariant
    ∙ count-turn (λ i. top (length c.args.hierarchy.now.firsts) c.args.hierarchy.now.firsts i) c.loop-class.class
