use Rattle.std.proofs.Common.{◌≡◌, ◌<◌, ◌^◌, drop}
use Rattle.obj_kinds.specs.LeadingNumber.{digits_from}
use Rattle.obj_kinds.proofs.number.digits_at.Given as goal

-- the digits so far, and those that are left
abbrev pub invariant-loop-byte : goal.invariant-loop-byte
invariant-loop-byte l = record {
  small : l.value < 10 ^ 18;
  rest : digits_from l.value (drop l.byte-index l.text) ≡ digits_from 0 l.text;
}
