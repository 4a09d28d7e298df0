use Rattle.std.proofs.Common.{◌≡◌, take}
use Rattle.part_copies.specs.Holding.{tightened}
use Rattle.part_copies.proofs.hold.hold_all.Given as goal

-- those so far are held
abbrev pub invariant-loop-at : goal.invariant-loop-at
invariant-loop-at l = l.table ≡ tightened l.initial.table (take l.at l.numbers)
