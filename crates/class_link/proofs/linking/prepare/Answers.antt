use Rattle.std.proofs.Common.{ap, ◌∙◌}
use Rattle.class_facts.specs.Facts.{seen}
use Rattle.class_checks.specs.Climbing.{climb_marks}
use Rattle.class_link.proofs.Preparing.{prepared}
use Rattle.class_link.proofs.linking.prepare.Goals as goal

pub returns : goal.returns
returns c =
    prepared c.args.trees.now (seen c.args.hierarchy.now c.args.tables.now) c.requires c.in_ok-extents.extents c.in_ok-deep.deep c.in_ok-nested.nested
    c.in_ok-extents.ensures
    (c.in_ok-deep.ensures ∙ ap (climb_marks 17) c.as_slice.ensures)
    (c.in_ok-nested.ensures ∙ ap (climb_marks 5) (c.as_slice-2.ensures ∙ c.in_ok-parts.ensures))
