use Rattle.std.proofs.Common.{◌≡◌, take}
use Rattle.method_table.proofs.table.PlaceTable.is_same.Given as goal

-- they are the same so far
abbrev pub invariant-loop-at : goal.invariant-loop-at
invariant-loop-at l = take l.at l.self ≡ take l.at l.other
