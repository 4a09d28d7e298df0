-- The words of scripts with their short forms, in any case.
use Rattle.std.specs.Prelude.{Bool, ◌||◌, if◌then◌else◌, Option, Some, None, map, codes}
use Rattle.std.specs.Char.{to_ascii_lowercase}
use Rattle.std.specs.Str.{bytes_eq}
use Rattle.text_reading.specs.Tokens.{Bytes}
use Rattle.script_tokens.specs.declared.token.Kind.{Kind}
use Rattle.script_tokens.specs.declared.token.Kind.TheVariants as k

-- the same letters, in any case
abbrev pub same_letters : Bytes → Bytes → Bool
same_letters word quoted = bytes_eq (map to_ascii_lowercase word) (map to_ascii_lowercase quoted)

-- a word or its short form
unfoldable pub spells : Bytes → Bytes → Bytes → Bool
spells whole short word = same_letters word whole || same_letters word short

-- the commands with and without arguments
unfoldable pub plain_command : Bytes → Option Kind
plain_command w =
    if spells (codes "set") (codes "s") w then Some k.Set
    else (if spells (codes "write") (codes "w") w then Some k.Write
    else (if spells (codes "do") (codes "d") w then Some k.Do
    else (if spells (codes "quit") (codes "q") w then Some k.Quit
    else (if spells (codes "kill") (codes "k") w then Some k.Kill
    else (if spells (codes "lock") (codes "l") w then Some k.Lock
    else (if spells (codes "halt") (codes "h") w then Some k.Halt
    else None))))))

-- the commands of transactions
unfoldable pub tran_command : Bytes → Option Kind
tran_command w =
    if spells (codes "tstart") (codes "ts") w then Some k.TStart
    else (if spells (codes "tcommit") (codes "tc") w then Some k.TCommit
    else (if spells (codes "trollback") (codes "tro") w then Some k.TRollback
    else None))

-- the commands with blocks
unfoldable pub block_command : Bytes → Option Kind
block_command w =
    if spells (codes "if") (codes "i") w then Some k.If
    else (if spells (codes "for") (codes "f") w then Some k.For
    else (if same_letters w (codes "elseif") then Some k.ElseIf
    else (if same_letters w (codes "else") then Some k.Else
    else (if same_letters w (codes "while") then Some k.While
    else None))))

-- the special variables, behind `$`
unfoldable pub special_word : Bytes → Option Kind
special_word w =
    if same_letters w (codes "test") then Some k.Test
    else (if same_letters w (codes "tlevel") then Some k.Level
    else (if same_letters w (codes "this") then Some k.This
    else None))

-- the functions that look at a variable or a global, behind `$`
unfoldable pub place_function : Bytes → Option Kind
place_function w =
    if spells (codes "get") (codes "g") w then Some k.Get
    else (if spells (codes "data") (codes "d") w then Some k.Data
    else (if spells (codes "order") (codes "o") w then Some k.Order
    else (if spells (codes "increment") (codes "i") w then Some k.Increment
    else None)))

-- the functions of texts, behind `$`
unfoldable pub text_function : Bytes → Option Kind
text_function w =
    if spells (codes "length") (codes "l") w then Some k.Length
    else (if spells (codes "extract") (codes "e") w then Some k.Extract
    else (if spells (codes "piece") (codes "p") w then Some k.Piece
    else (if spells (codes "find") (codes "f") w then Some k.Find
    else (if spells (codes "ascii") (codes "a") w then Some k.Ascii
    else (if spells (codes "char") (codes "c") w then Some k.Char
    else None)))))

-- the functions of lists, behind `$`
unfoldable pub list_function : Bytes → Option Kind
list_function w =
    if spells (codes "listbuild") (codes "lb") w then Some k.ListBuild
    else (if spells (codes "list") (codes "li") w then Some k.List
    else (if spells (codes "listlength") (codes "ll") w then Some k.ListLength
    else None))

abbrev pub or_else : Option Kind → Kind → Kind
or_else (Some kind) default = kind
or_else None default = default

-- a word where a command may stand
unfoldable pub command_word : Bytes → Kind
command_word w = or_else (plain_command w) (or_else (tran_command w) (or_else (block_command w) k.UnknownCommand))

-- a word behind `$`
unfoldable pub dollar_word : Bytes → Kind
dollar_word w = or_else (special_word w) (or_else (place_function w) (or_else (text_function w) (or_else (list_function w) k.UnknownFunction)))
