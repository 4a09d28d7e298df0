use Rattle.std.proofs.Common.{◌≡◌, map}
use Rattle.class_facts.specs.Facts.{seen, count_from}
use Rattle.class_extents.specs.Books.{extent_with}
use Rattle.class_extents.specs.Extents.{extent_entries}
use Rattle.class_extents.proofs.extents.find_extents.Given as goal

abbrev pub invariant-loop-class : goal.invariant-loop-class
invariant-loop-class l = l.extents ≡ map (λ i. extent_with l.trees (extent_entries l.trees (seen l.hierarchy l.tables) i)) (count_from 0 l.class)
