use Rattle.std.proofs.Common.{◌≡◌, ◌+◌, drop}
use Rattle.first_path.specs.Pieces.{span, is_text_byte}
use Rattle.first_path.proofs.piece.text_len.Given as goal

-- all bytes so far pass
abbrev pub invariant-loop-at : goal.invariant-loop-at
invariant-loop-at l = l.at + span is_text_byte (drop l.at l.text) ≡ span is_text_byte l.text
