-- What the tokens before tell of the next one: whether an operand or a command may stand there, and where a postcondition ends.
use Rattle.std.specs.Prelude.{ℕ, ◌+◌, ◌-◌, Bool, true, false, ◌&&◌, ◌||◌, if◌then◌else◌, ◌==◌, nat_lt, Option, Some, None}
use Rattle.script_tokens.specs.declared.token.Kind.{Kind}
use Rattle.script_tokens.specs.declared.token.Kind.TheVariants as k
use Rattle.script_tokens.specs.ScriptKinds.{is_spelled}
use Rattle.script_tokens.specs.declared.mode.At.{At}
use Rattle.script_tokens.specs.declared.mode.At.TheVariants as at
use Rattle.script_tokens.specs.declared.mode.Takes.{Takes}
use Rattle.script_tokens.specs.declared.mode.Takes.TheVariants as takes
use Rattle.script_tokens.specs.declared.mode.Mode.{Mode}

-- in a postcondition, outside its parentheses
abbrev pub is_open : Option ℕ → Bool
is_open (Some depth) = depth == 0
is_open None = false

abbrev pub is_behind : At → Bool
is_behind at.Behind = true
is_behind _ = false

abbrev pub is_word : At → Bool
is_word at.Word = true
is_word _ = false

abbrev pub is_possible : Takes → Bool
is_possible takes.Possible = true
is_possible _ = false

-- an argument begins behind a blank: behind the command's word, and behind its postcondition
abbrev pub begins_argument : Mode → Bool
begins_argument m = is_word m.at || (is_open m.post && is_behind m.at)

abbrev pub at_argument : Takes → At
at_argument takes.Nothing = at.Command
at_argument _ = at.Operand

-- where a command may stand, and no operand
abbrev pub at_command : Mode → Mode
at_command m = record { at = at.Command; takes = m.takes; post = None }

-- a blank ends a postcondition; where the postcondition isn't whole, no operand can follow it
abbrev pub after_blank : Mode → Mode
after_blank m =
    if begins_argument m then record { at = at_argument m.takes; takes = m.takes; post = None }
    else (if is_open m.post then at_command m else m)

abbrev pub ends_named : Kind → Bool
ends_named k.Name = true
ends_named k.Percent = true
ends_named k.GlobalName = true
ends_named k.Close = true
ends_named k.Line = true
ends_named k.Order = true
ends_named _ = false

-- an operand may end with it, or it is the name of a function
abbrev pub ends_operand : Kind → Bool
ends_operand kind = ends_named kind || is_spelled kind

-- where the next token stands, behind one that ends no operand
abbrev pub at_mark : Kind → At
at_mark k.Set = at.Word
at_mark k.Write = at.Word
at_mark k.Do = at.Word
at_mark k.Quit = at.Word
at_mark k.Kill = at.Word
at_mark k.Lock = at.Word
at_mark k.TStart = at.Word
at_mark k.TCommit = at.Word
at_mark k.TRollback = at.Word
at_mark k.Halt = at.Word
at_mark k.If = at.Word
at_mark k.ElseIf = at.Word
at_mark k.Else = at.Word
at_mark k.For = at.Word
at_mark k.While = at.Word
at_mark k.Newline = at.Command
at_mark k.LBrace = at.Command
at_mark k.RBrace = at.Command
at_mark k.Dot = at.Member
at_mark k.Own = at.Member
at_mark k.ClassClose = at.Member
at_mark k.Caret = at.Global
at_mark k.ClassOpen = at.Class
at_mark k.ClassName = at.ClassEnd
at_mark _ = at.Operand

-- where the next token stands
abbrev pub at_after : Kind → At
at_after kind = if ends_operand kind then at.Behind else at_mark kind

-- whether the last command takes arguments
abbrev pub takes_after : Takes → Kind → Takes
takes_after t k.Set = takes.Needed
takes_after t k.Write = takes.Needed
takes_after t k.Do = takes.Needed
takes_after t k.If = takes.Needed
takes_after t k.ElseIf = takes.Needed
takes_after t k.While = takes.Needed
takes_after t k.Quit = takes.Possible
takes_after t k.Kill = takes.Possible
takes_after t k.Lock = takes.Possible
takes_after t k.TRollback = takes.Possible
takes_after t k.For = takes.Possible
takes_after t k.TStart = takes.Nothing
takes_after t k.TCommit = takes.Nothing
takes_after t k.Halt = takes.Nothing
takes_after t k.Else = takes.Nothing
takes_after t _ = t

-- parentheses in a postcondition; more than 255 are never told apart, since 64 may be open
abbrev pub opened : Option ℕ → Option ℕ
opened (Some depth) = Some (if nat_lt depth 255 then depth + 1 else depth)
opened None = None

abbrev pub closed : Option ℕ → Option ℕ
closed (Some depth) = Some (if nat_lt 0 depth then depth - 1 else depth)
closed None = None

-- a colon directly behind a command's word begins a postcondition
abbrev pub post_after : Option ℕ → At → Kind → Option ℕ
post_after post at k.Colon = if is_word at then Some 0 else post
post_after post at k.Open = opened post
post_after post at k.OpenArgs = opened post
post_after post at k.ClassOpen = opened post
post_after post at k.Close = closed post
post_after post at k.ClassClose = closed post
post_after post at k.Newline = None
post_after post at k.LBrace = None
post_after post at k.RBrace = None
post_after post at _ = post

abbrev pub is_gap : Kind → Bool
is_gap k.Blank = true
is_gap _ = false

abbrev pub is_lacking : Kind → Bool
is_lacking k.Lacking = true
is_lacking _ = false

abbrev pub after_token : Mode → Kind → Mode
after_token m kind = record { at = at_after kind; takes = takes_after m.takes kind; post = post_after m.post m.at kind }

-- the mode behind a token of this kind
unfoldable pub after : Mode → Kind → Mode
after m kind = if is_gap kind then after_blank m else (if is_lacking kind then at_command m else after_token m kind)

abbrev pub start : Mode
start = record { at = at.Command; takes = takes.Nothing; post = None }
