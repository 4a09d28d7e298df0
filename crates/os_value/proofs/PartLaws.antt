-- Parts of lists by places: all of it, and parts beside one another.
use Rattle.std.proofs.Common.{◌≡◌, ℕ, zero, suc, ◌+◌, ◌≤◌, pos, List, [], ◌∷◌, ◌++◌, length, take, drop, refl, ap, arith}
use Rattle.std.proofs.lemmas.List.{take_all}
use Rattle.os_value.specs.Places.{part}

module _ {X : Type 0} where
  pub neighbours : (a j k : ℕ) (xs : List X) → a ≤ j → j ≤ k → drop a (take j xs) ++ drop j (take k xs) ≡ drop a (take k xs)
  neighbours zero zero k xs p q = refl
  neighbours (suc a) zero k xs p q = absurd (omega arith)
  neighbours zero (suc j) zero xs p q = absurd (omega arith)
  neighbours (suc a) (suc j) zero xs p q = absurd (omega arith)
  neighbours zero (suc j) (suc k) [] p q = refl
  neighbours (suc a) (suc j) (suc k) [] p q = refl
  neighbours zero (suc j) (suc k) (x ∷ xs) p q = ap (λ l. x ∷ l) (neighbours zero j k xs (omega arith) (omega arith))
  neighbours (suc a) (suc j) (suc k) (x ∷ xs) p q = neighbours a j k xs (omega arith) (omega arith)

pub part_all : (text : List ℕ) → part (pos 1) (pos (length text)) text ≡ text
part_all text = take_all (length text) text (omega arith)

pub part_neighbours : (text : List ℕ) (i j k : ℕ) → i ≤ j + 1 → j ≤ k → part (pos i) (pos j) text ++ part (pos (suc j)) (pos k) text ≡ part (pos i) (pos k) text
part_neighbours text zero j k p q = neighbours 0 j k text (omega arith) q
part_neighbours text (suc i) j k p q = neighbours i j k text (omega arith) q
