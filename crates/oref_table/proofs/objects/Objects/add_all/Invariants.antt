use Rattle.std.proofs.Common.{◌≡◌, ◌+◌, ◌++◌, length}
use Rattle.oref_table.specs.Making.{new_entries}
use Rattle.oref_table.proofs.objects.Objects.add_all.Given as goal

-- those so far are added
abbrev pub invariant-loop-new : goal.invariant-loop-new
invariant-loop-new l = (l.self ≡ l.initial.self ++ new_entries l.last l.yielded) × (l.number ≡ l.last + length l.yielded)
