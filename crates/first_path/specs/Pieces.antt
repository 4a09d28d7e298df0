-- Pieces of a line: literals, names and texts.
use Rattle.std.specs.Prelude.{ℕ, zero, suc, Bool, true, false, cond, ◌&&◌, ◌==◌, not, nat_le, List, [], ◌∷◌, length, take, drop, Option, Some, None}
use Rattle.first_class.specs.Names.{is_alphanumeric, is_name}

-- what follows the literal
abbrev pub after : List ℕ → List ℕ → Option (List ℕ)
after [] text = Some text
after (byte ∷ literal) [] = None
after (byte ∷ literal) (first ∷ text) = cond (byte == first) (after literal text) None

-- how many bytes at the front pass the test
abbrev pub span : (ℕ → Bool) → List ℕ → ℕ
span test [] = 0
span test (byte ∷ text) = cond (test byte) (suc (span test text)) 0

-- the longest piece of such bytes, if it is of the kind, and what follows it
abbrev pub piece : (ℕ → Bool) → (List ℕ → Bool) → List ℕ → Option (List ℕ × List ℕ)
piece test is_kind text = let n = span test text in cond (is_kind (take n text)) (Some (take n text, drop n text)) None

-- a byte that stands for itself in a text
abbrev pub is_text_byte : ℕ → Bool
is_text_byte byte = nat_le 32 byte && nat_le byte 126 && not (byte == 34)

-- a text of a property has 50 bytes at most
abbrev pub is_short : List ℕ → Bool
is_short text = nat_le (length text) 50

abbrev pub name_in : List ℕ → Option (List ℕ × List ℕ)
name_in = piece is_alphanumeric is_name

abbrev pub text_in : List ℕ → Option (List ℕ × List ℕ)
text_in = piece is_text_byte is_short
