use Rattle.std.proofs.Common.{◌≡◌, drop, fold}
use Rattle.class_extents.specs.Extents.{add_distinct, declared_indexes}
use Rattle.class_extents.proofs.entries.count_indexes.Given as goal

abbrev pub invariant-loop-entry : goal.invariant-loop-entry
invariant-loop-entry l = fold add_distinct l.spots (drop l.entry-index l.entries) ≡ declared_indexes l.entries
