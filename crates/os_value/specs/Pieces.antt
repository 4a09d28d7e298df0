-- Pieces of a text between delimiters.
use Rattle.std.specs.Prelude.{ℕ, ◌+◌, ℤ, pos, List, [], ◌∷◌, ◌++◌, length, take, drop, Option, Result, Ok}
use Rattle.memchr.specs.Find.{matches}
use Rattle.obj_kinds.specs.declared.value.Value.{Value}
use Rattle.obj_kinds.specs.declared.error_name.ErrorName.{ErrorName}
use Rattle.os_value.specs.Answers.{and_then}
use Rattle.os_value.specs.Readings.{text_in}
use Rattle.os_value.specs.Texts.{as_text}
use Rattle.os_value.specs.Places.{place_or, part}

-- what stands between delimiters of length k at these places, from a place on
abbrev pub pieces_behind : List ℕ → ℕ → ℕ → List ℕ → List (List ℕ)
pieces_behind text k from [] = drop from text ∷ []
pieces_behind text k from (at ∷ places) = drop from (take at text) ∷ pieces_behind text k (at + k) places

-- what stands between the delimiters; nothing where the delimiter is empty
abbrev pub pieces : List ℕ → List ℕ → List (List ℕ)
pieces [] text = []
pieces (byte ∷ more) text = pieces_behind text (length (byte ∷ more)) 0 (matches text (byte ∷ more) 0)

-- each with the delimiter before it
abbrev pub behind_others : List ℕ → List (List ℕ) → List ℕ
behind_others delimiter [] = []
behind_others delimiter (piece ∷ more) = delimiter ++ (piece ++ behind_others delimiter more)

-- with the delimiter between them
abbrev pub joined_by : List ℕ → List (List ℕ) → List ℕ
joined_by delimiter [] = []
joined_by delimiter (piece ∷ more) = piece ++ behind_others delimiter more

-- the pieces at places from i to j: 1 where i is missing, and i where j is
abbrev pub pieced : Value → Value → Option Value → Option Value → Result Value ErrorName
pieced t d i j =
    and_then (text_in t) (λ text. and_then (text_in d) (λ delimiter. and_then (place_or i (pos 1)) (λ first. and_then (place_or j first) (λ last.
    as_text (Ok (joined_by delimiter (part first last (pieces delimiter text))))))))
