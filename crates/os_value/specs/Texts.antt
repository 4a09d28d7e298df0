-- The operators and functions on texts.
use Rattle.std.specs.Prelude.{ℕ, ◌+◌, ℤ, pos, negsuc, cond, nat_le, nat_lt, List, [], ◌∷◌, ◌++◌, length, drop, Option, Some, None, Result, Ok, Err}
use Rattle.memchr.specs.Find.{matches}
use Rattle.obj_kinds.specs.declared.value.Value.{Value}
use Rattle.obj_kinds.specs.declared.value.Value.TheVariants.{Str}
use Rattle.obj_kinds.specs.declared.error_name.ErrorName.{ErrorName}
use Rattle.obj_kinds.specs.declared.error_name.ErrorName.TheVariants.{MaxString, Function}
use Rattle.os_value.specs.Answers.{and_then, stored}
use Rattle.os_value.specs.Readings.{text_in, number_in, whole}
use Rattle.os_value.specs.Comparisons.{place_of, texts_in}
use Rattle.os_value.specs.Places.{place_or, before, part}

abbrev pub as_text : Result (List ℕ) ErrorName → Result Value ErrorName
as_text text = and_then text (λ bytes. Ok (Str bytes))

-- one behind the other, 32,767 bytes at most
abbrev pub joined : List ℕ → List ℕ → Result (List ℕ) ErrorName
joined s t = cond (nat_le (length s + length t) 32767) (Ok (s ++ t)) (Err MaxString)

abbrev pub joined_of : Value → Value → Result Value ErrorName
joined_of a b = and_then (texts_in a b) (λ p. as_text (joined p.0 p.1))

-- the bytes at places from i to j: 1 where i is missing, and i where j is
abbrev pub extracted : Value → Option Value → Option Value → Result Value ErrorName
extracted t i j =
    and_then (text_in t) (λ text. and_then (place_or i (pos 1)) (λ first. and_then (place_or j first) (λ last. as_text (Ok (part first last text)))))

-- the code of the first byte, or -1
abbrev pub code_of : List ℕ → ℤ
code_of [] = negsuc 0
code_of (byte ∷ rest) = pos byte

abbrev pub ascii_of : Value → Option Value → Result Value ErrorName
ascii_of t i = and_then (text_in t) (λ text. and_then (place_or i (pos 1)) (λ place. stored (Ok (code_of (part place place text)))))

-- a code is one of 0 to 127
abbrev pub byte_of : ℤ → Result ℕ ErrorName
byte_of (pos n) = cond (nat_lt n 128) (Ok n) (Err Function)
byte_of (negsuc n) = Err Function

-- behind other bytes
abbrev pub prefixed : List ℕ → Result (List ℕ) ErrorName → Result (List ℕ) ErrorName
prefixed front (Ok bytes) = Ok (front ++ bytes)
prefixed front (Err e) = Err e

-- the bytes of the codes, each read before the next
abbrev pub chars : List Value → Result (List ℕ) ErrorName
chars [] = Ok []
chars (code ∷ codes) = and_then (and_then (number_in code) byte_of) (λ byte. prefixed (byte ∷ []) (chars codes))

abbrev pub char_of : List Value → Result Value ErrorName
char_of codes = as_text (chars codes)

-- behind what was found: none is 0
abbrev pub behind : ℕ → ℕ → Option ℕ → ℤ
behind next len None = pos 0
behind next len (Some at) = pos (next + (at + len))

-- the place behind the first u in what stands at place i and later; for the empty u that is place i
abbrev pub found : ℤ → List ℕ → List ℕ → ℤ
found i [] text = pos (before i + 1)
found i (byte ∷ more) text = behind (before i + 1) (length (byte ∷ more)) (place_of (drop (before i) text) (byte ∷ more))

abbrev pub found_of : Value → Value → Option Value → Result Value ErrorName
found_of t u i = and_then (text_in t) (λ text. and_then (text_in u) (λ sought. and_then (place_or i (pos 1)) (λ place. stored (whole (found place sought text)))))

-- one more than the delimiters that don't overlap; none where the delimiter is empty
abbrev pub piece_count : List ℕ → List ℕ → ℕ
piece_count [] text = 0
piece_count (byte ∷ more) text = length (matches text (byte ∷ more) 0) + 1

abbrev pub length_of : Value → Option Value → Result Value ErrorName
length_of t None = and_then (text_in t) (λ text. stored (Ok (pos (length text))))
length_of t (Some d) = and_then (text_in t) (λ text. and_then (text_in d) (λ delimiter. stored (Ok (pos (piece_count delimiter text)))))
