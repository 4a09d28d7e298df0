use Rattle.std.proofs.Common.{ap, sym, ◌∙◌}
use Rattle.std.specs.List.{list_any}
use Rattle.class_extents.specs.declared.extent.Extent.{Extent}
use Rattle.class_extents.specs.Extents.{same_entry}
use Rattle.class_extents.specs.Books.{group_of}
use Rattle.class_extents.proofs.BookLaws.{same-in-group}
use Rattle.class_extents.proofs.extent.is_there.Goals as goal

pub returns-in-Some : goal.returns-in-Some
returns-in-Some c =
    c.has_entry.ensures
    ∙ ap (list_any (same_entry c.args.entry)) (c.group.ensures ∙ ap (λ (x : Extent). group_of c.in-Some.name.now x.book) c.requires)
    ∙ same-in-group c.args.trees.now c.args.entry c.in-Some.name.now c.args.extent.now.entries (sym c.in-Some.ensures)
