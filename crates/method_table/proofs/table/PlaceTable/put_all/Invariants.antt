use Rattle.std.proofs.Common.{◌≡◌, take}
use Rattle.method_table.specs.Places.{put_all}
use Rattle.method_table.proofs.table.PlaceTable.put_all.Given as goal

abbrev pub invariant-loop-at : goal.invariant-loop-at
invariant-loop-at l = l.self ≡ put_all l.initial.self (take l.at l.other)
