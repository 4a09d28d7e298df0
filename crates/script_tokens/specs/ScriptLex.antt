-- Tokens: what stands at the front of a script, and the list of all that a script has.
use Rattle.std.specs.Prelude.{◌≡◌, refl, ℕ, Bool, true, false, ◌&&◌, ◌||◌, if◌then◌else◌, ◌==◌, Option, Some, None, [], ◌∷◌, take, drop, slice_index, codes}
use Rattle.std.specs.Char.{is_ascii_digit, is_ascii_alphabetic}
use Rattle.std.specs.Str.{bytes_eq}
use Rattle.text_reading.specs.Tokens.{Bytes, Tok, Toks}
use Rattle.text_reading.specs.Lexing as lexing
use Rattle.script_tokens.specs.declared.token.Kind.{Kind}
use Rattle.script_tokens.specs.declared.token.Kind.TheVariants as k
use Rattle.script_tokens.specs.declared.chars.Set.TheVariants as set
use Rattle.script_tokens.specs.declared.mode.At.{At}
use Rattle.script_tokens.specs.declared.mode.At.TheVariants as at
use Rattle.script_tokens.specs.declared.mode.Mode.{Mode}
use Rattle.script_tokens.specs.ScriptBytes.{is_ascii, past}
use Rattle.script_tokens.specs.ScriptWords.{command_word, dollar_word}
use Rattle.script_tokens.specs.ScriptPieces.{Cut, string, begins_comment, comment, digits, begins_word, global_end, class_end, begins_class}
use Rattle.script_tokens.specs.ScriptModes.{begins_argument, is_possible, after, start}

-- ---- blanks

abbrev pub is_space : ℕ → Bool
is_space b = b == 9 || b == 13 || b == 32

-- the command's line or block ends here, or a comment begins
unfoldable pub ends_command : Bytes → Bool
ends_command [] = true
ends_command (b ∷ z) = b == 10 || b == 123 || b == 125 || (b == 13 && slice_index z 0 == 10) || begins_comment (b ∷ z)

-- what stands behind the first byte
abbrev pub tail : Bytes → Bytes
tail [] = []
tail (b ∷ z) = z

-- A command that may lack its argument lacks it where its end, a comment or two blanks follow, or its end behind one blank.
unfoldable pub is_alone : Bytes → Bool
is_alone z = ends_command z || (is_space (slice_index z 0) && (ends_command (tail z) || is_space (slice_index z 1)))

-- the kind of a blank or comment
unfoldable pub gap : Mode → Bytes → Kind
gap m z = if begins_argument m && is_possible m.takes && is_alone z then k.Lacking else k.Blank

-- ---- single bytes

abbrev pub other : ℕ → Cut
other b = (if is_ascii b then k.Other else k.NotAscii, 1)

-- one of these two kinds, by the byte that comes next
abbrev pub doubled : Bytes → ℕ → Kind → Kind → Cut
doubled z next two one = if slice_index z 1 == next then (two, 2) else (one, 1)

-- ---- where an operand may stand

abbrev pub name : Bytes → Cut
name z = (k.Name, past set.Word z 1)

abbrev pub dollar : Bytes → Cut
dollar z = if is_ascii_alphabetic (slice_index z 1) then (dollar_word (tail (take (past set.Word z 1) z)), past set.Word z 1) else (k.Other, 1)

abbrev pub percent : Bytes → Cut
percent z = if bytes_eq (take (past set.Word z 1) z) (codes "%objlasterror") then (k.LastError, past set.Word z 1) else (k.Other, 1)

-- `'` is a sign, unless it makes an operator with the next byte
abbrev pub negates : ℕ → Bool
negates b = b == 61 || b == 60 || b == 62 || b == 91 || b == 93

abbrev pub not_sign : Bytes → Cut
not_sign z = (if negates (slice_index z 1) then k.Other else k.Not, 1)

abbrev pub class_open : Bytes → Cut
class_open z = if begins_class z then (k.ClassOpen, 8) else (k.Other, 1)

unfoldable pub operand_mark : ℕ → Bytes → Cut
operand_mark b z =
    if b == 40 then (k.Open, 1) else (if b == 41 then (k.Close, 1) else (if b == 43 then (k.Plus, 1) else (if b == 45 then (k.Minus, 1)
    else (if b == 39 then not_sign z else (if b == 33 then (k.Line, 1) else (if b == 94 then (k.Caret, 1)
    else (if b == 46 then doubled z 46 k.Own k.Other else (if b == 35 then class_open z else other b))))))))

unfoldable pub operand : ℕ → Bytes → Cut
operand b z =
    if is_ascii_alphabetic b then name z
    else (if is_ascii_digit b then digits z
    else (if b == 34 then string z
    else (if b == 36 then dollar z
    else (if b == 37 then percent z
    else operand_mark b z))))

-- ---- behind an operand

-- the opposite of an operator
unfoldable pub opposite : Bytes → Cut
opposite z =
    let next = slice_index z 1 in
    if next == 61 then (k.NotEqual, 2) else (if next == 60 then (k.NotLess, 2) else (if next == 62 then (k.NotGreater, 2)
    else (if next == 91 then (k.NotContains, 2) else (if next == 93 then (k.NotFollows, 2) else (k.Other, 1)))))

abbrev pub rest_mark : Bytes → Cut
rest_mark z = (if begins_class z then k.Other else k.Modulo, 1)

unfoldable pub sum_mark : ℕ → Option Kind
sum_mark b =
    if b == 43 then Some k.Add else (if b == 45 then Some k.Subtract else (if b == 42 then Some k.Multiply else (if b == 92 then Some k.Quotient
    else (if b == 95 then Some k.Join else (if b == 61 then Some k.Equals else (if b == 91 then Some k.Contains else (if b == 93 then Some k.Follows
    else (if b == 33 then Some k.Or else None))))))))

unfoldable pub list_mark : ℕ → Option Kind
list_mark b =
    if b == 41 then Some k.Close else (if b == 40 then Some k.OpenArgs else (if b == 44 then Some k.Comma else (if b == 58 then Some k.Colon else None)))

unfoldable pub wide_mark : ℕ → Bytes → Cut
wide_mark b z =
    if b == 60 then doubled z 61 k.AtMost k.Less else (if b == 62 then doubled z 61 k.AtLeast k.Greater else (if b == 38 then doubled z 38 k.AndThen k.And
    else (if b == 124 then doubled z 124 k.OrElse k.Other else (if b == 39 then opposite z else (if b == 46 then doubled z 46 k.Other k.Dot
    else (if b == 35 then rest_mark z else other b))))))

abbrev pub or_cut : Option Kind → Cut → Cut
or_cut (Some kind) cut = (kind, 1)
or_cut None cut = cut

unfoldable pub behind_mark : ℕ → Bytes → Cut
behind_mark b z = or_cut (sum_mark b) (or_cut (list_mark b) (wide_mark b z))

abbrev pub is_outside : Option ℕ → Bool
is_outside (Some depth) = false
is_outside None = true

abbrev pub command_at : Bytes → Cut
command_at z = (command_word (take (past set.Word z 1) z), past set.Word z 1)

-- behind an operand a word begins a command; a blank stands before it where there is a postcondition
unfoldable pub behind : Option ℕ → ℕ → Bytes → Cut
behind post b z = if is_ascii_alphabetic b then (if is_outside post then command_at z else (k.Other, 1)) else behind_mark b z

-- ---- names behind a mark

abbrev pub command : ℕ → Bytes → Cut
command b z = if is_ascii_alphabetic b then command_at z else other b

abbrev pub post_mark : ℕ → Cut
post_mark b = if b == 58 then (k.Colon, 1) else other b

abbrev pub member : ℕ → Bytes → Cut
member b z = if begins_word z then (if b == 37 then k.Percent else k.Name, past set.Word z 1) else other b

abbrev pub global : ℕ → Bytes → Cut
global b z = if is_ascii_alphabetic b || b == 37 then (k.GlobalName, global_end 1 1 (drop 1 z)) else other b

abbrev pub class : ℕ → Bytes → Cut
class b z = if begins_word z then (k.ClassName, class_end false 1 (drop 1 z)) else other b

-- `).` behind the name of a class
abbrev pub class_close : ℕ → Bytes → Cut
class_close b z = if b == 41 && slice_index z 1 == 46 then (k.ClassClose, 2) else other b

abbrev pub by_place : At → Option ℕ → ℕ → Bytes → Cut
by_place at.Command post b z = command b z
by_place at.Word post b z = post_mark b
by_place at.Operand post b z = operand b z
by_place at.Behind post b z = behind post b z
by_place at.Member post b z = member b z
by_place at.Global post b z = global b z
by_place at.Class post b z = class b z
by_place at.ClassEnd post b z = class_close b z

-- ---- the token at the front

-- the kind and the length of the token at the front
unfoldable pub token : Mode → Bytes → Cut
token m [] = (k.End, 0)
token m (b ∷ z) =
    if is_space b then (gap m (b ∷ z), 1)
    else (if b == 10 then (k.Newline, 1)
    else (if b == 123 then (k.LBrace, 1)
    else (if b == 125 then (k.RBrace, 1)
    else (if begins_comment (b ∷ z) then comment (gap m (b ∷ z)) (b ∷ z)
    else by_place m.at m.post b (b ∷ z)))))

abbrev pub is_blank : Kind → Bool
is_blank k.Blank = true
is_blank k.Lacking = true
is_blank _ = false

-- The tokens of a text, where so much is known of what stands before it.
abbrev pub tokens : Mode → Bytes → Toks Kind
tokens m z = lexing.tokens token after is_blank m z

-- the tokens of a script
abbrev pub script_tokens : Bytes → Toks Kind
script_tokens text = tokens start text

-- what a cursor of scripts knows
pub token_end : (m : Mode) → (token m []).0 ≡ k.End
unfolding token
token_end m = refl
