-- The number at the front of a text: any signs, and then digits.
use Rattle.std.specs.Prelude.{ℕ, ◌+◌, ◌-◌, ◌*◌, ℤ, pos, neg_ℤ, Bool, false, not, cond, ◌&&◌, ◌==◌, nat_le, List, [], ◌∷◌}

abbrev pub is_digit : ℕ → Bool
is_digit byte = nat_le 48 byte && nat_le byte 57

-- the value of the digits at the front, behind those that make n
abbrev pub digits_from : ℕ → List ℕ → ℕ
digits_from n [] = n
digits_from n (byte ∷ rest) = cond (is_digit byte) (digits_from (n * 10 + (byte - 48)) rest) n

abbrev pub with_sign : Bool → ℕ → ℤ
with_sign negative n = cond negative (neg_ℤ (pos n)) (pos n)

-- each `-` at the front turns the sign, each `+` leaves it
abbrev pub signed_number : Bool → List ℕ → ℤ
signed_number negative [] = pos 0
signed_number negative (byte ∷ rest) =
    cond (byte == 45) (signed_number (not negative) rest) (cond (byte == 43) (signed_number negative rest) (with_sign negative (digits_from 0 (byte ∷ rest))))

-- 0 where no digit follows the signs
abbrev pub leading_number : List ℕ → ℤ
leading_number text = signed_number false text
