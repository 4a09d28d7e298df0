use Rattle.std.proofs.Common.{◌≡◌, drop}
use Rattle.obj_kinds.specs.LeadingNumber.{signed_number, leading_number}
use Rattle.obj_kinds.proofs.number.number_of.Given as goal

-- the signs so far, and what is left
abbrev pub invariant-loop-at : goal.invariant-loop-at
invariant-loop-at l = signed_number l.negative (drop l.at l.text) ≡ leading_number l.text
