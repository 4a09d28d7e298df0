use Rattle.std.proofs.Common.{◌≡◌, ◌+◌, drop}
use Rattle.first_class.specs.Names.{is_alphanumeric}
use Rattle.first_path.specs.Pieces.{span}
use Rattle.first_path.proofs.piece.name_len.Given as goal

-- all bytes so far pass
abbrev pub invariant-loop-at : goal.invariant-loop-at
invariant-loop-at l = l.at + span is_alphanumeric (drop l.at l.text) ≡ span is_alphanumeric l.text
