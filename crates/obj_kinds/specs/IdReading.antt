-- How an id is read from a text.
use Rattle.std.specs.Prelude.{ℕ, suc, zero, ℤ, pos, negsuc, cond, ◌==◌, List, [], ◌∷◌, take, drop, Option, Some, None}
use Rattle.std.specs.Option.{option_and_then}
use Rattle.obj_kinds.specs.Subscript.{whole_of}

-- how many bytes stand before the first bar
abbrev pub before_bar : List ℕ → ℕ
before_bar [] = 0
before_bar (byte ∷ text) = cond (byte == 124) 0 (suc (before_bar text))

-- a number from 1
abbrev pub positive : Option ℤ → Option ℕ
positive None = None
positive (Some (negsuc n)) = None
positive (Some (pos zero)) = None
positive (Some (pos (suc n))) = Some (suc n)

abbrev pub with_rest : Option ℕ → List ℕ → Option (ℕ × List ℕ)
with_rest None rest = None
with_rest (Some n) rest = Some (n, rest)

-- the number up to the first bar, and what follows it
unfoldable pub part_in : List ℕ → Option (ℕ × List ℕ)
part_in text = let n = before_bar text in with_rest (positive (whole_of (take n text))) (drop n text)

-- what follows two bars
abbrev pub after_bars : List ℕ → Option (List ℕ)
after_bars [] = None
after_bars (a ∷ []) = None
after_bars (a ∷ b ∷ rest) = cond (a == 124) (cond (b == 124) (Some rest) None) None

abbrev pub ended : List ℕ → List ℕ → Option (List ℕ)
ended parts [] = Some parts
ended parts (byte ∷ rest) = None

abbrev pub ended_or : List ℕ → List ℕ → Option (List ℕ) → Option (List ℕ)
ended_or parts [] other = Some parts
ended_or parts (byte ∷ rest) other = other

abbrev pub third : ℕ → ℕ → List ℕ → Option (List ℕ)
third a b text = option_and_then (λ r. option_and_then (λ c. ended (a ∷ b ∷ c.0 ∷ []) c.1) (part_in r)) (after_bars text)

abbrev pub second : ℕ → List ℕ → Option (List ℕ)
second a text = option_and_then (λ r. option_and_then (λ b. ended_or (a ∷ b.0 ∷ []) b.1 (third a b.0 b.1)) (part_in r)) (after_bars text)

-- the numbers of the id that the text is
unfoldable pub id_in : List ℕ → Option (List ℕ)
id_in text = option_and_then (λ a. ended_or (a.0 ∷ []) a.1 (second a.0 a.1)) (part_in text)
