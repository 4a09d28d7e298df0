-- The numbers that parameters write.
use Rattle.std.specs.Prelude.{ℕ, ℤ, pos, neg_ℤ, cond, List, [], ◌∷◌, nat_eq, int_lt, Option, Some, None, option_map}
use Rattle.obj_kinds.specs.Subscript.{whole_of}

-- leading zeros are skipped, but for the last digit
abbrev pub skip_zeros : List ℕ → List ℕ
skip_zeros [] = []
skip_zeros (b ∷ []) = b ∷ []
skip_zeros (b ∷ c ∷ rest) = cond (nat_eq b 48) (skip_zeros (c ∷ rest)) (b ∷ c ∷ rest)

abbrev pub unsigned : Option ℤ → Option ℤ
unsigned None = None
unsigned (Some z) = cond (int_lt z (pos 0)) None (Some z)

-- the number that digits write after their leading zeros, with a minus sign or without
abbrev pub number_of : List ℕ → Option ℤ
number_of [] = None
number_of (b ∷ rest) = cond (nat_eq b 45) (option_map neg_ℤ (unsigned (whole_of (skip_zeros rest)))) (unsigned (whole_of (skip_zeros (b ∷ rest))))
