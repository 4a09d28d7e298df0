-- Tokens: what stands at the front of a text, and the list of all that a text has.
use Rattle.std.specs.Prelude.{◌≡◌, refl, ℕ, ◌-◌, Bool, true, false, not, ◌&&◌, ◌||◌, if◌then◌else◌, ◌==◌, nat_lt, Option, Some, None, [], ◌∷◌, take, drop, map, slice_index, codes}
use Rattle.std.specs.Char.{is_ascii_digit, is_ascii_alphabetic, to_ascii_lowercase}
use Rattle.std.specs.Str.{bytes_eq}
use Rattle.text_reading.specs.Tokens.{Bytes, Tok, Toks}
use Rattle.text_reading.specs.Lexing as lexing
use Rattle.class_tokens.specs.declared.token.Kind.{Kind}
use Rattle.class_tokens.specs.declared.token.Kind.TheVariants as k
use Rattle.class_tokens.specs.declared.chars.Set.TheVariants as set
use Rattle.class_tokens.specs.declared.blocks.Part.TheVariants.{Code}
use Rattle.class_tokens.specs.declared.mode.At.{At}
use Rattle.class_tokens.specs.declared.mode.At.TheVariants as at
use Rattle.class_tokens.specs.declared.mode.Joint.{Joint}
use Rattle.class_tokens.specs.declared.mode.Joint.TheVariants as j
use Rattle.class_tokens.specs.declared.mode.Mode.{Mode}
use Rattle.class_tokens.specs.ClassBytes.{is_ascii, past}
use Rattle.class_tokens.specs.ClassBlocks.{Cut, quoted_from, comment_from, storage_from, body_from, balanced_from}
use Rattle.class_tokens.specs.ClassModes.{after, start}

-- the longest run of digits; leading zeros don't count
abbrev pub digits : Bytes → Cut
digits z =
    let end = past set.Digits z 1 in
    (if nat_lt 18 end && nat_lt 18 (end - past set.Zeros z 0) then k.LongDigits else k.Digits, end)

-- ---- words

-- the same letters, in any case
abbrev pub same_letters : Bytes → Bytes → Bool
same_letters word quoted = bytes_eq (map to_ascii_lowercase word) (map to_ascii_lowercase quoted)

unfoldable pub head_word : Bytes → Option Kind
head_word word =
    if same_letters word (codes "class") then Some k.Class
    else (if same_letters word (codes "extends") then Some k.Extends
    else (if same_letters word (codes "not") then Some k.Not
    else (if same_letters word (codes "on") then Some k.On else None)))

unfoldable pub type_word : Bytes → Option Kind
type_word word =
    if same_letters word (codes "as") then Some k.As
    else (if same_letters word (codes "list") then Some k.List
    else (if same_letters word (codes "array") then Some k.Array
    else (if same_letters word (codes "of") then Some k.Of else None)))

unfoldable pub member_word : Bytes → Option Kind
member_word word =
    if same_letters word (codes "property") then Some k.Property
    else (if same_letters word (codes "relationship") then Some k.Relationship
    else (if same_letters word (codes "index") then Some k.Index
    else (if same_letters word (codes "parameter") then Some k.Parameter
    else (if same_letters word (codes "method") then Some k.Method
    else (if same_letters word (codes "classmethod") then Some k.ClassMethod
    else (if same_letters word (codes "storage") then Some k.Storage else None))))))

unfoldable pub left_out_word : Bytes → Bool
left_out_word word =
    same_letters word (codes "query") || same_letters word (codes "trigger") || same_letters word (codes "foreignkey")
    || same_letters word (codes "projection") || same_letters word (codes "xdata")

abbrev pub or_else : Option Kind → Kind → Kind
or_else (Some kind) default = kind
or_else None default = default

-- the quoted words of the grammar, and all other names
unfoldable pub word_kind : Bytes → Kind
word_kind word = or_else (head_word word) (or_else (type_word word) (or_else (member_word word) (if left_out_word word then k.LeftOut else k.Name)))

abbrev pub is_at_own_name : At → Bool
is_at_own_name at.OwnName = true
is_at_own_name _ = false

-- A word where no dot follows it, and where one does. Behind `Class` and behind `=` that tells a name of several words.
unfoldable pub single_word : Mode → Bool → Bytes → Kind
single_word m percent word =
    if is_at_own_name m.at then k.Bare else (if m.equals then k.Lone else (if percent then k.Percent else word_kind word))

unfoldable pub first_word : Mode → Bool → Bytes → ℕ → Kind
first_word m percent word next = if next == 46 then (if percent then k.Percent else word_kind word) else single_word m percent word

-- A word behind a dot is part of a name, unless a blank stands between.
abbrev pub kind_by : Joint → Mode → Bool → Bytes → ℕ → Kind
kind_by j.Torn m percent word next = k.Other
kind_by j.Dotted m percent word next = if percent then k.Percent else k.Name
kind_by _ m percent word next = first_word m percent word next

abbrev pub kind_of_word : Mode → Bool → Bytes → ℕ → Kind
kind_of_word m percent word next = kind_by m.joint m percent word next

abbrev pub word : Mode → Bytes → Cut
word m z = let end = past set.Word z 1 in (kind_of_word m (slice_index z 0 == 37) (take end z) (slice_index z end), end)

unfoldable pub begins_word : Bytes → Bool
begins_word z = is_ascii_alphabetic (slice_index z 0) || (slice_index z 0 == 37 && is_ascii_alphabetic (slice_index z 1))

-- ---- the others

abbrev pub slash : Bytes → Cut
slash z =
    if slice_index z 1 == 47 then (k.Blank, past set.Line z 2)
    else (if slice_index z 1 == 42 then comment_from 2 (drop 2 z) else (k.Other, 1))

-- what a brace opens
abbrev pub brace_at : At → Bytes → Cut
brace_at at.Outside z = (k.LBrace, 1)
brace_at at.OwnName z = (k.LBrace, 1)
brace_at at.Member z = body_from 0 Code 1 z
brace_at at.Inside z = body_from 0 Code 1 z
brace_at at.InStorage z = storage_from 0 1 z

abbrev pub brace : Mode → Bytes → Cut
brace m z = if m.equals then balanced_from (125 ∷ []) false 1 z else brace_at m.at z

abbrev pub parenthesis : Mode → Bytes → Cut
parenthesis m z = if m.equals then balanced_from (41 ∷ []) false 1 z else (k.LParen, 1)

abbrev pub is_joined : Joint → Bool
is_joined j.Joined = true
is_joined _ = false

unfoldable pub single : Mode → ℕ → Kind
single m b =
    if b == 9 || b == 10 || b == 13 || b == 32 then k.Blank
    else (if b == 44 then k.Comma else (if b == 59 then k.Semicolon else (if b == 61 then k.Equals else (if b == 45 then k.Minus
    else (if b == 41 then k.RParen else (if b == 91 then k.LBracket else (if b == 93 then k.RBracket else (if b == 125 then k.RBrace
    else (if b == 46 then (if is_joined m.joint then k.Dot else k.Other)
    else (if is_ascii b then k.Other else k.NotAscii))))))))))

-- the kind and the length of the token at the front
unfoldable pub token : Mode → Bytes → Cut
token m [] = (k.End, 0)
token m (b ∷ z) =
    if begins_word (b ∷ z) then word m (b ∷ z)
    else (if is_ascii_digit b then digits (b ∷ z)
    else (if b == 34 then quoted_from false 1 z
    else (if b == 47 then slash (b ∷ z)
    else (if b == 123 then brace m z
    else (if b == 40 then parenthesis m z
    else (single m b, 1))))))

abbrev pub is_blank : Kind → Bool
is_blank k.Blank = true
is_blank _ = false

abbrev pub tok : Mode → Bytes → Tok Kind
tok m z = lexing.tok token after is_blank m z

-- The tokens of a text, where so much is known of what stands before it.
abbrev pub tokens : Mode → Bytes → Toks Kind
tokens m z = lexing.tokens token after is_blank m z

-- the tokens of a class file
abbrev pub file_tokens : Bytes → Toks Kind
file_tokens text = tokens start text

-- what a cursor of class files knows
pub token_end : (m : Mode) → (token m []).0 ≡ k.End
unfolding token
token_end m = refl
