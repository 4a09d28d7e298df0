use Rattle.std.proofs.Common.{ap, ◌∙◌, ◌∷◌, [], ◌++◌}
use Rattle.class_facts.specs.Facts.{seen}
use Rattle.class_facts.proofs.FactLemmas.{count-turn}
use Rattle.class_checks.specs.Reasons.{parts_in}
use Rattle.class_checks.proofs.parts.find_part_links.Goals as goal

pub loop-class-preserved : goal.loop-class-preserved
loop-class-preserved c =
    c.in_ok-push.ensures.ok
    ∙ ap (λ l. c.loop-class.links ++ l ∷ []) c.in_ok-class_parts.ensures
    ∙ ap (λ l. l ++ parts_in c.args.trees.now (seen c.args.hierarchy.now c.args.tables.now) c.loop-class.class ∷ []) c.loop-class.invariant
    ∙ count-turn (parts_in c.args.trees.now (seen c.args.hierarchy.now c.args.tables.now)) c.loop-class.class
