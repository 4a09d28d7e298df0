-- The place behind some bytes: a line feed begins a line, and any other byte takes a column.
use Rattle.std.specs.Prelude.{ℕ, ◌+◌, ◌-◌, if◌then◌else◌, ◌==◌, [], ◌∷◌, length, take}
use Rattle.text_reading.specs.declared.places.Place.{Place}
use Rattle.text_reading.specs.Tokens.{Bytes}

abbrev pub next_place : Place → ℕ → Place
next_place p b = if b == 10 then record { line = p.line + 1; column = 1 } else record { line = p.line; column = p.column + 1 }

abbrev pub place_from : Place → Bytes → Place
place_from p [] = p
place_from p (b ∷ z) = place_from (next_place p b) z

abbrev pub text_start : Place
text_start = record { line = 1; column = 1 }

-- a text that begins at a place, as a method's body in its class file
pub record Placed : Type 0 where
  pub start : Place
  pub text : Bytes

abbrev pub whole_text : Bytes → Placed
whole_text text = record { start = text_start; text = text }

-- the place from which on there are so many bytes
abbrev pub place_in : Placed → ℕ → Place
place_in p left = place_from p.start (take (length p.text - left) p.text)

-- the same where the text is a whole one
abbrev pub place_of : Bytes → ℕ → Place
place_of text left = place_from text_start (take (length text - left) text)
