-- What names of classes mean.
use Rattle.std.specs.Prelude.{ℕ, zero, suc, Bool, ◌||◌, if◌then◌else◌, ◌==◌, ◌∷◌, ◌++◌, take, drop, length, slice_index, codes}
use Rattle.std.specs.Str.{bytes_eq}
use Rattle.std.specs.List.{list_any}
use Rattle.text_reading.specs.Tokens.{Bytes}

-- the place of the last dot among the first bytes, or 0
abbrev pub last_dot : ℕ → Bytes → ℕ
last_dot zero name = 0
last_dot (suc n) name = if slice_index name n == 46 then n else last_dot n name

-- what stands before the last dot
abbrev pub package_of : Bytes → Bytes
package_of name = take (last_dot (length name) name) name

abbrev pub has_dot : Bytes → Bool
has_dot name = list_any (λ b. b == 46) name

abbrev pub is_library : Bytes → Bool
is_library name = bytes_eq (take 9 name) (codes "%Library.")

-- A name without a dot and without `%` is in the package `home`; `%Library.X` is `%X`.
unfoldable pub whole_name : Bytes → Bytes → Bytes
whole_name home name =
    if is_library name then 37 ∷ drop 9 name
    else (if has_dot name || slice_index name 0 == 37 then name else home ++ 46 ∷ name)
