use Rattle.std.proofs.Common.{◌≡◌, None, sym, ◌∙◌}
use borrow.Author.Count.{below_more}
use Rattle.class_facts.specs.Facts.{seen}
use Rattle.class_link.specs.Refusal.{late_reason}
use Rattle.class_link.proofs.linking.first_late_reason.Goals as goal

pub loop-class-preserved : goal.loop-class-preserved
loop-class-preserved c =
    below_more (λ j. late_reason c.args.trees.now (seen c.args.hierarchy.now c.args.tables.now) j ≡ None) c.loop-class.class
    c.loop-class.invariant (sym c.in_ok-why.ensures ∙ c.in_default.is)
