-- Kinds of tokens.
use Rattle.std.specs.Prelude.{◌≡◌, refl, Bool, true, false, ◌||◌}
use denote.Enum.Bare.{sameb, same_true, true_same}
use Rattle.script_tokens.specs.contracts.token.Kind.{the_type}
use Rattle.script_tokens.specs.declared.token.Kind.{Kind}
use Rattle.script_tokens.specs.declared.token.Kind.TheVariants as k

-- `==` on kinds
unfoldable pub same_kind : Kind → Kind → Bool
same_kind = sameb the_type

pub same_kind_is : (a b : Kind) → same_kind a b ≡ true → a ≡ b
unfolding same_kind
same_kind_is = same_true the_type tt

pub same_kind_self : (a : Kind) → same_kind a a ≡ true
unfolding same_kind
same_kind_self a = true_same the_type a a refl

-- the kinds that are this one
abbrev pub is : Kind → Kind → Bool
is wanted kind = same_kind kind wanted

-- whether it names a member, behind a dot
abbrev pub is_member : Kind → Bool
is_member k.Name = true
is_member k.Percent = true
is_member _ = false

-- whether it is a number
abbrev pub is_number : Kind → Bool
is_number k.Digits = true
is_number k.One = true
is_number k.LongDigits = true
is_number _ = false

-- whether it is a string
abbrev pub is_text : Kind → Bool
is_text k.Text = true
is_text k.Shared = true
is_text k.OpenText = true
is_text k.BadText = true
is_text _ = false

-- whether it is a sign
abbrev pub is_sign : Kind → Bool
is_sign k.Plus = true
is_sign k.Minus = true
is_sign k.Not = true
is_sign _ = false

-- whether it is a binary operator
abbrev pub is_operator : Kind → Bool
is_operator k.Equals = true
is_operator k.Add = true
is_operator k.Subtract = true
is_operator k.Multiply = true
is_operator k.Quotient = true
is_operator k.Modulo = true
is_operator k.Join = true
is_operator k.Less = true
is_operator k.Greater = true
is_operator k.AtMost = true
is_operator k.AtLeast = true
is_operator k.Contains = true
is_operator k.Follows = true
is_operator k.And = true
is_operator k.Or = true
is_operator k.NotEqual = true
is_operator k.NotLess = true
is_operator k.NotGreater = true
is_operator k.NotContains = true
is_operator k.NotFollows = true
is_operator k.AndThen = true
is_operator k.OrElse = true
is_operator _ = false

-- whether it is a special variable
abbrev pub is_special : Kind → Bool
is_special k.LastError = true
is_special k.Test = true
is_special k.Level = true
is_special k.This = true
is_special _ = false

-- whether it is a function that looks at a variable or a global, and may have a second argument
abbrev pub is_looking : Kind → Bool
is_looking k.Get = true
is_looking k.Data = true
is_looking k.Increment = true
is_looking _ = false

-- whether it is a function of values
abbrev pub is_function : Kind → Bool
is_function k.Length = true
is_function k.Extract = true
is_function k.Piece = true
is_function k.Find = true
is_function k.Ascii = true
is_function k.Char = true
is_function k.ListBuild = true
is_function k.List = true
is_function k.ListLength = true
is_function k.UnknownFunction = true
is_function _ = false

abbrev pub begins_named : Kind → Bool
begins_named k.Open = true
begins_named k.Name = true
begins_named k.Caret = true
begins_named k.Order = true
begins_named k.ClassOpen = true
begins_named k.Own = true
begins_named _ = false

-- a literal, a special variable or a function
abbrev pub is_spelled : Kind → Bool
is_spelled kind = is_number kind || is_text kind || is_special kind || is_looking kind || is_function kind

-- whether an operand may begin with it
abbrev pub begins_operand : Kind → Bool
begins_operand kind = is_sign kind || begins_named kind || is_spelled kind

-- whether it is a word where a command may stand
abbrev pub is_command : Kind → Bool
is_command k.Set = true
is_command k.Write = true
is_command k.Do = true
is_command k.Quit = true
is_command k.Kill = true
is_command k.Lock = true
is_command k.TStart = true
is_command k.TCommit = true
is_command k.TRollback = true
is_command k.Halt = true
is_command k.If = true
is_command k.For = true
is_command k.While = true
is_command k.UnknownCommand = true
is_command _ = false
