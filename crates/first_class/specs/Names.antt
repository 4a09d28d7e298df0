-- Names of variables and properties.
use Rattle.std.specs.Prelude.{ℕ, Bool, false, ◌&&◌, ◌||◌, nat_le, List, [], ◌∷◌, length}
use Rattle.std.specs.List.{list_all}
pub use Rattle.obj_kinds.specs.LeadingNumber.{is_digit}

abbrev pub is_letter : ℕ → Bool
is_letter byte = (nat_le 65 byte && nat_le byte 90) || (nat_le 97 byte && nat_le byte 122)

abbrev pub is_alphanumeric : ℕ → Bool
is_alphanumeric byte = is_letter byte || is_digit byte

-- a letter, and then letters and digits, 31 at most
abbrev pub is_name : List ℕ → Bool
is_name [] = false
is_name (first ∷ others) = is_letter first && list_all is_alphanumeric others && nat_le (length others) 30
