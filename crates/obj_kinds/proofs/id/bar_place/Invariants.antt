use Rattle.std.proofs.Common.{◌≡◌, ◌+◌, drop}
use Rattle.obj_kinds.specs.IdReading.{before_bar}
use Rattle.obj_kinds.proofs.id.bar_place.Given as goal

-- no bar so far
abbrev pub invariant-loop-at : goal.invariant-loop-at
invariant-loop-at l = l.at + before_bar (drop l.at l.text) ≡ before_bar l.text
