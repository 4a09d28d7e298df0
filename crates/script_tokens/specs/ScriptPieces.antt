-- Strings, comments, numbers and names of several words. Each definition goes on byte by byte; `at` counts the bytes so far.
use Rattle.std.specs.Prelude.{ℕ, ◌+◌, ◌-◌, Bool, true, false, ◌&&◌, ◌||◌, if◌then◌else◌, ◌==◌, nat_lt, [], ◌∷◌, take, drop, slice_index, codes}
use Rattle.std.specs.Char.{is_ascii_alphabetic, is_ascii_alphanumeric}
use Rattle.std.specs.Str.{bytes_eq}
use Rattle.text_reading.specs.Tokens.{Bytes}
use Rattle.script_tokens.specs.declared.token.Kind.{Kind}
use Rattle.script_tokens.specs.declared.token.Kind.TheVariants as k
use Rattle.script_tokens.specs.declared.chars.Set.TheVariants as set
use Rattle.script_tokens.specs.ScriptBytes.{is_ascii, past}

-- a kind, and a length in bytes
abbrev pub Cut : Type 0
Cut = Kind × ℕ

-- What stands in quotes, from behind the first one. Where the byte before is a quote that may close, the string ends unless another one follows.
abbrev pub quoted_from : Bool → ℕ → Bytes → Cut
quoted_from true at [] = (k.Text, at)
quoted_from false at [] = (k.OpenText, at)
quoted_from true at (b ∷ z) = if b == 34 then quoted_from false (at + 1) z else (k.Text, at)
quoted_from false at (b ∷ z) = if is_ascii b then quoted_from (b == 34) (at + 1) z else (k.BadText, at)

-- the string "S" alone
unfoldable pub is_shared : Bytes → Bool
is_shared z = slice_index z 1 == 83 && slice_index z 2 == 34 && (if slice_index z 3 == 34 then false else true)

abbrev pub string : Bytes → Cut
string z = if is_shared z then (k.Shared, 3) else quoted_from false 1 (drop 1 z)

-- A comment, from behind its first two bytes; `gap` is its kind. It ends at a byte that may not stand anywhere.
abbrev pub comment_from : Kind → ℕ → Bytes → Cut
comment_from gap at [] = (k.OpenComment, at)
comment_from gap at (b ∷ z) = if is_ascii b then (if b == 42 && slice_index z 0 == 47 then (gap, at + 2) else comment_from gap (at + 1) z) else (gap, at)

-- from the start of a comment to the line's end
abbrev pub line_comment : Bytes → Bool
line_comment z = slice_index z 0 == 59 || (slice_index z 0 == 47 && slice_index z 1 == 47) || (slice_index z 0 == 35 && slice_index z 1 == 59)

abbrev pub long_comment : Bytes → Bool
long_comment z = slice_index z 0 == 47 && slice_index z 1 == 42

-- `;`, `//`, `#;` or `/*` begins a comment
unfoldable pub begins_comment : Bytes → Bool
begins_comment z = line_comment z || long_comment z

abbrev pub comment : Kind → Bytes → Cut
comment gap z = if long_comment z then comment_from gap 2 (drop 2 z) else (gap, past set.Line z 1)

-- the longest run of digits; leading zeros don't count
abbrev pub digits_kind : Bytes → ℕ → Kind
digits_kind z end =
    if nat_lt 18 end && nat_lt 18 (end - past set.Zeros z 0) then k.LongDigits
    else (if end == 1 && slice_index z 0 == 49 then k.One else k.Digits)

abbrev pub digits : Bytes → Cut
digits z = (digits_kind z (past set.Digits z 1), past set.Digits z 1)

-- a letter, or `%` and a letter
unfoldable pub begins_word : Bytes → Bool
begins_word z = is_ascii_alphabetic (slice_index z 0) || (slice_index z 0 == 37 && is_ascii_alphabetic (slice_index z 1))

-- The end of a global's name, which has dots only inside: `good` is the end so far.
abbrev pub global_end : ℕ → ℕ → Bytes → ℕ
global_end good at [] = good
global_end good at (b ∷ z) = if is_ascii_alphanumeric b then global_end (at + 1) (at + 1) z else (if b == 46 then global_end good (at + 1) z else good)

-- The end of a class's name: words that are joined by dots.
abbrev pub class_end : Bool → ℕ → Bytes → ℕ
class_end dotted at [] = at
class_end dotted at (b ∷ z) =
    if is_ascii_alphanumeric b || (dotted && b == 37) then class_end false (at + 1) z
    else (if b == 46 && begins_word z then class_end true (at + 1) z else at)

-- the word `##class(`
abbrev pub class_mark : Bytes
class_mark = codes "##class("

unfoldable pub begins_class : Bytes → Bool
begins_class z = bytes_eq (take 8 z) class_mark
