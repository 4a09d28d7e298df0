-- Strings, comments and blocks. Each definition goes on byte by byte; `at` counts the bytes so far.
use Rattle.std.specs.Prelude.{ℕ, ◌+◌, ◌-◌, Bool, true, false, not, ◌&&◌, ◌||◌, if◌then◌else◌, ◌==◌, [], ◌∷◌, ◌++◌, take, length, slice_index}
use Rattle.text_reading.specs.Tokens.{Bytes}
use Rattle.class_tokens.specs.declared.token.Kind.{Kind}
use Rattle.class_tokens.specs.declared.token.Kind.TheVariants.{Blank, OpenComment, Text, OpenText, BadText, Block, OpenBlock, BadBlock, TornBlock}
use Rattle.class_tokens.specs.declared.blocks.Part.{Part}
use Rattle.class_tokens.specs.declared.blocks.Part.TheVariants as part
use Rattle.class_tokens.specs.ClassBytes.{is_ascii}

-- a kind, and a length in bytes
abbrev pub Cut : Type 0
Cut = Kind × ℕ

-- What stands in quotes, from behind the first one. Where the byte before is a quote that may close, the string ends unless another one follows.
abbrev pub quoted_from : Bool → ℕ → Bytes → Cut
quoted_from true at [] = (Text, at)
quoted_from false at [] = (OpenText, at)
quoted_from true at (b ∷ z) = if b == 34 then quoted_from false (at + 1) z else (Text, at)
quoted_from false at (b ∷ z) = if is_ascii b then quoted_from (b == 34) (at + 1) z else (BadText, at)

-- A comment, from behind its first two bytes. It ends at a byte that may not stand anywhere.
abbrev pub comment_from : ℕ → Bytes → Cut
comment_from at [] = (OpenComment, at)
comment_from at (b ∷ z) = if is_ascii b then (if b == 42 && slice_index z 0 == 47 then (Blank, at + 2) else comment_from (at + 1) z) else (Blank, at)

-- how many braces are open behind the byte
abbrev pub depth_after : ℕ → ℕ → ℕ
depth_after depth b = if b == 123 then depth + 1 else (if b == 125 then depth - 1 else depth)

-- A storage block, from behind its first brace. Braces alone count.
abbrev pub storage_from : ℕ → ℕ → Bytes → Cut
storage_from depth at [] = (OpenBlock, at)
storage_from depth at (b ∷ z) =
    if is_ascii b then (if b == 125 && depth == 0 then (Block, at + 1) else storage_from (depth_after depth b) (at + 1) z)
    else (BadBlock, at)

-- ---- bodies

-- what a byte of code begins; a comment begins with `//`, `;` or `/*`
abbrev pub part_after_code : ℕ → ℕ → Part
part_after_code b next =
    if b == 34 then part.Text
    else (if b == 59 then part.Line
    else (if b == 47 then (if next == 47 then part.Line else (if next == 42 then part.Opening else part.Code))
    else part.Code))

abbrev pub part_after : Part → ℕ → ℕ → Part
part_after part.Code b next = part_after_code b next
part_after part.Text b next = if b == 34 then part.Code else part.Text
part_after part.Line b next = if b == 10 then part.Code else part.Line
part_after part.Opening b next = part.Comment
part_after part.Comment b next = if b == 42 && next == 47 then part.Closing else part.Comment
part_after part.Closing b next = part.Code

abbrev pub is_code : Part → Bool
is_code part.Code = true
is_code _ = false

-- A body, from behind its first brace, to the brace that matches it. Braces in strings and comments don't count.
abbrev pub body_from : ℕ → Part → ℕ → Bytes → Cut
body_from depth p at [] = (OpenBlock, at)
body_from depth p at (b ∷ z) =
    if is_ascii b then
    (if is_code p && b == 125 && depth == 0 then (Block, at + 1)
    else body_from (if is_code p then depth_after depth b else depth) (part_after p b (slice_index z 0)) (at + 1) z)
    else (BadBlock, at)

-- ---- values in brackets

abbrev pub is_closing : ℕ → Bool
is_closing b = b == 125 || b == 41

-- the bracket that has to close next
abbrev pub top : Bytes → ℕ
top due = slice_index due (length due - 1)

abbrev pub open_after : Bytes → ℕ → Bytes
open_after due b =
    if is_closing b then take (length due - 1) due
    else (if b == 123 then due ++ 125 ∷ [] else (if b == 40 then due ++ 41 ∷ [] else due))

-- A value in brackets, from behind the first one. `due` has the closing brackets that are still to come, the next one last.
abbrev pub balanced_from : Bytes → Bool → ℕ → Bytes → Cut
balanced_from due quoted at [] = (OpenBlock, at)
balanced_from due true at (b ∷ z) = if is_ascii b then balanced_from due (not (b == 34)) (at + 1) z else (BadBlock, at)
balanced_from due false at (b ∷ z) =
    if is_ascii b then
    (if is_closing b && not (top due == b) then (TornBlock, at)
    else (if is_closing b && length due == 1 then (Block, at + 1)
    else balanced_from (open_after due b) (b == 34) (at + 1) z))
    else (BadBlock, at)
