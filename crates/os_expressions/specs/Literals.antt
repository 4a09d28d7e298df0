-- What numbers and strings say.
use Rattle.std.specs.Prelude.{Bool, true, false, if◌then◌else◌, ◌==◌, nat_lt, [], ◌∷◌, drop, length, slice_index, codes}
use Rattle.text_reading.specs.Tokens.{Bytes}
use Rattle.script_tokens.specs.declared.chars.Set.TheVariants as set
use Rattle.script_tokens.specs.ScriptBytes.{past}

-- the number that digits write: its digits without leading zeros
abbrev pub significant : Bytes → Bytes
significant z = if nat_lt (past set.Zeros z 0) (length z) then drop (past set.Zeros z 0) z else codes "0"

-- What a string says, from behind its first quote: two quotes are one, byte 13 before a line feed is skipped, and elsewhere it is a blank.
abbrev pub content_from : Bool → Bytes → Bytes
content_from second [] = []
content_from true (b ∷ z) = if b == 34 then 34 ∷ content_from false z else []
content_from false (b ∷ z) =
    if b == 34 then content_from true z
    else (if b == 13 then (if slice_index z 0 == 10 then content_from false z else 32 ∷ content_from false z)
    else b ∷ content_from false z)

unfoldable pub content : Bytes → Bytes
content text = content_from false (drop 1 text)
