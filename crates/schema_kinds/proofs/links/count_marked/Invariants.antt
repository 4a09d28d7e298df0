use Rattle.std.proofs.Common.{◌≡◌, ◌+◌, ◌≤◌, drop}
use Rattle.schema_kinds.specs.Links.{marked}
use Rattle.schema_kinds.proofs.links.count_marked.Given as goal

abbrev pub invariant-loop-mark : goal.invariant-loop-mark
invariant-loop-mark l = (l.count + marked (drop l.mark-index l.marks) ≡ marked l.marks) × (l.count ≤ l.mark-index)
