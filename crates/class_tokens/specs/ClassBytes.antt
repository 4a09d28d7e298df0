-- Bytes of a class file.
use Rattle.std.specs.Prelude.{ℕ, ◌+◌, Bool, not, ◌&&◌, ◌||◌, ◌==◌, nat_le, drop}
use Rattle.std.specs.Char.{is_ascii_digit, is_ascii_alphanumeric}
use Rattle.std.specs.List.{prefix_len}
use Rattle.text_reading.specs.Tokens.{Bytes}
use Rattle.class_tokens.specs.declared.chars.Set.{Set}
use Rattle.class_tokens.specs.declared.chars.Set.TheVariants as set

-- the bytes that a class file may have
abbrev pub is_ascii : ℕ → Bool
is_ascii b = b == 9 || b == 10 || b == 13 || (nat_le 32 b && nat_le b 126)

abbrev pub is_in : Set → ℕ → Bool
is_in set.Zeros b = b == 48
is_in set.Digits b = is_ascii_digit b
is_in set.Word b = is_ascii_alphanumeric b
is_in set.Line b = not (b == 10) && is_ascii b

-- the first place from `at` on whose byte is not of the set
abbrev pub past : Set → Bytes → ℕ → ℕ
past s z at = at + prefix_len (is_in s) (drop at z)
