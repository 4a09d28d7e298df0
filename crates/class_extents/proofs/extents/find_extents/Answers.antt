use Rattle.std.proofs.Common.{ap, ◌∙◌, ◌∷◌, [], ◌++◌}
use Rattle.class_facts.specs.Facts.{seen}
use Rattle.class_facts.proofs.FactLemmas.{count-turn}
use Rattle.class_extents.specs.Books.{extent_with}
use Rattle.class_extents.specs.Extents.{extent_entries}
use Rattle.class_extents.proofs.extents.find_extents.Goals as goal

pub loop-class-preserved : goal.loop-class-preserved
loop-class-preserved c =
    c.in_ok-push.ensures.ok
    ∙ ap (λ x. c.loop-class.extents ++ x ∷ []) c.in_ok-find_extent.ensures
    ∙ ap (λ l. l ++ extent_with c.args.trees.now (extent_entries c.args.trees.now (seen c.args.hierarchy.now c.args.tables.now) c.loop-class.class) ∷ []) c.loop-class.invariant
    ∙ count-turn (λ i. extent_with c.args.trees.now (extent_entries c.args.trees.now (seen c.args.hierarchy.now c.args.tables.now) i)) c.loop-class.class
