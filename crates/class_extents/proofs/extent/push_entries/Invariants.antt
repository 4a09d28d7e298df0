use Rattle.std.proofs.Common.{◌≡◌, drop, fold}
use Rattle.class_extents.specs.Extents.{add_entry}
use Rattle.class_extents.specs.Books.{extent_with}
use Rattle.class_extents.proofs.extent.push_entries.Given as goal

abbrev pub invariant-loop-entry : goal.invariant-loop-entry
invariant-loop-entry l =
    (l.extent ≡ extent_with l.trees l.extent.entries)
    × (fold add_entry l.extent.entries (drop l.entry-index l.more) ≡ fold add_entry l.initial.extent.entries l.more)
