use Rattle.std.proofs.Common.{◌≡◌, drop}
use Rattle.class_extents.specs.Extents.{clash_in}
use Rattle.class_extents.proofs.extent.any_clash.Given as goal

abbrev pub invariant-loop-entry : goal.invariant-loop-entry
invariant-loop-entry l = clash_in l.trees (drop l.entry-index l.entries) l.extent.entries ≡ clash_in l.trees l.entries l.extent.entries
