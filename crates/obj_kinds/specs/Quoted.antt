-- How a text is written in quotes.
use Rattle.std.specs.Prelude.{ℕ, Bool, cond, ◌&&◌, ◌==◌, nat_le, List, [], ◌∷◌, ◌++◌, codes}
use Rattle.std.specs.Fmt.{decimal}
use Rattle.obj_kinds.specs.declared.quote.Run.{Run}
use Rattle.obj_kinds.specs.declared.quote.Run.TheVariants.{Start, Quotes, Codes}

-- a byte that stands for itself between quotes
abbrev pub is_plain : ℕ → Bool
is_plain byte = nat_le 32 byte && nat_le byte 126

-- between quotes a quote is written twice
abbrev pub plain_byte : ℕ → List ℕ
plain_byte byte = cond (byte == 34) (34 ∷ 34 ∷ []) (byte ∷ [])

-- what stands before a plain byte
abbrev pub before_plain : Run → List ℕ
before_plain Start = codes "\""
before_plain Quotes = []
before_plain Codes = codes ")_\""

-- what stands before the number of any other byte
abbrev pub before_code : Run → List ℕ
before_code Start = codes "$c("
before_code Quotes = codes "\"_$c("
before_code Codes = codes ","

-- what stands after the last byte
abbrev pub at_end : Run → List ℕ
at_end Start = codes "\"\""
at_end Quotes = codes "\""
at_end Codes = codes ")"

-- the rest of a text: runs of plain bytes in quotes, and runs of the others as numbers
abbrev pub rest_of_text : Run → List ℕ → List ℕ
rest_of_text run [] = at_end run
rest_of_text run (byte ∷ rest) =
    cond (is_plain byte) (before_plain run ++ plain_byte byte ++ rest_of_text Quotes rest) (before_code run ++ decimal byte ++ rest_of_text Codes rest)

unfoldable pub quoted : List ℕ → List ℕ
quoted text = rest_of_text Start text
