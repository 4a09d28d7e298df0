use Rattle.class_facts.specs.Facts.{seen}
use Rattle.class_link.proofs.Preparing.{classes-fit}
use Rattle.class_link.proofs.linking.link.Goals as goal

pub new-requires : goal.new-requires
new-requires c =
    classes-fit c.as_slice-rows.result.now (seen c.in_ok-hierarchy.hierarchy c.in_ok-tables.tables) c.in_ok-hierarchy.hierarchy c.in_ok-classes.classes
    c.in_ok-classes.ensures c.in_ok-hierarchy.ensures.hierarchy
