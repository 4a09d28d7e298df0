-- More digits never make a number smaller.
use Rattle.std.proofs.Common.{ℕ, ◌≤◌, ◌+◌, ◌-◌, ◌*◌, true, false, cond, List, [], ◌∷◌, arith}
use Rattle.obj_kinds.specs.LeadingNumber.{is_digit, digits_from}

pub digits_from-grows : (n : ℕ) (text : List ℕ) → n ≤ digits_from n text
digits_from-grows n [] = omega arith
digits_from-grows n (byte ∷ rest) =
    let more : n * 10 + (byte - 48) ≤ digits_from (n * 10 + (byte - 48)) rest = digits_from-grows (n * 10 + (byte - 48)) rest in
    elim (is_digit byte) as (λ b. n ≤ cond b (digits_from (n * 10 + (byte - 48)) rest) n) [ true ↦ omega arith | false ↦ omega arith ]
