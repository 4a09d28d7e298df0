use Rattle.std.proofs.Common.{◌≡◌, [], fold}
use Rattle.class_facts.specs.Facts.{seen, count_from}
use Rattle.class_extents.specs.Books.{extent_with}
use Rattle.class_extents.specs.Extents.{is_in_extent, entries_in, add_entries_if}
use Rattle.class_extents.proofs.extents.find_extent.Given as goal

abbrev pub invariant-loop-class : goal.invariant-loop-class
invariant-loop-class l =
    l.extent ≡ extent_with l.trees (fold (λ entries i. add_entries_if (is_in_extent (seen l.hierarchy l.tables) l.root i) entries (entries_in l.trees (seen l.hierarchy l.tables) i)) [] (count_from 0 l.class))
