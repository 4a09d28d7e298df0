-- All kinds of token, so that tests of kinds compute.
use Rattle.std.proofs.Common.{◌≡◌, ℕ, zero, suc, Bool, true, false, ◌&&◌, List, [], ◌∷◌, Option, Some, None, refl}
use Rattle.text_reading.proofs.KindTests.{Kinds, each}
use Rattle.script_tokens.specs.declared.token.Kind.{Kind}
use Rattle.script_tokens.specs.declared.token.Kind.TheVariants as k

-- the number-th of a list
abbrev nth : ℕ → List Kind → Option Kind
nth n [] = None
nth zero (h ∷ hs) = Some h
nth (suc n) (h ∷ hs) = nth n hs

left_of : (a b : Bool) → (a && b) ≡ true → a ≡ true
left_of true b e = refl
left_of false b e = absurd (cc)

right_of : (a b : Bool) → (a && b) ≡ true → b ≡ true
right_of true b e = e
right_of false b e = absurd (cc)

pub nth_of : (test : Kind → Bool) (hs : List Kind) → each test hs ≡ true → (n : ℕ) (h : Kind) → nth n hs ≡ Some h → test h ≡ true
nth_of test [] e n h is = absurd (cc)
nth_of test (g ∷ hs) e zero h is = let same : g ≡ h = cc in let t = left_of (test g) (each test hs) e in (cc)
nth_of test (g ∷ hs) e (suc n) h is = nth_of test hs (right_of (test g) (each test hs) e) n h is

abbrev kinds : List Kind
kinds =
    k.End ∷ k.Blank ∷ k.Lacking ∷ k.NotAscii ∷ k.OpenComment ∷ k.Other ∷ k.Newline ∷ k.Name ∷ k.Percent ∷ k.ClassName ∷
    k.GlobalName ∷ k.UnknownCommand ∷ k.Digits ∷ k.One ∷ k.LongDigits ∷ k.Text ∷ k.Shared ∷ k.OpenText ∷ k.BadText ∷ k.Open ∷
    k.OpenArgs ∷ k.Close ∷ k.LBrace ∷ k.RBrace ∷ k.Comma ∷ k.Colon ∷ k.Equals ∷ k.Plus ∷ k.Minus ∷ k.Not ∷
    k.Add ∷ k.Subtract ∷ k.Multiply ∷ k.Quotient ∷ k.Modulo ∷ k.Join ∷ k.Less ∷ k.Greater ∷ k.AtMost ∷ k.AtLeast ∷
    k.Contains ∷ k.Follows ∷ k.And ∷ k.Or ∷ k.NotEqual ∷ k.NotLess ∷ k.NotGreater ∷ k.NotContains ∷ k.NotFollows ∷ k.AndThen ∷
    k.OrElse ∷ k.Line ∷ k.Dot ∷ k.Own ∷ k.Caret ∷ k.ClassOpen ∷ k.ClassClose ∷ k.LastError ∷ k.Test ∷ k.Level ∷
    k.This ∷ k.Get ∷ k.Data ∷ k.Order ∷ k.Increment ∷ k.Length ∷ k.Extract ∷ k.Piece ∷ k.Find ∷ k.Ascii ∷
    k.Char ∷ k.ListBuild ∷ k.List ∷ k.ListLength ∷ k.UnknownFunction ∷ k.Set ∷ k.Write ∷ k.Do ∷ k.Quit ∷ k.Kill ∷
    k.Lock ∷ k.TStart ∷ k.TCommit ∷ k.TRollback ∷ k.Halt ∷ k.If ∷ k.ElseIf ∷ k.Else ∷ k.For ∷ k.While ∷ []

abbrev place : Kind → ℕ
place k.End = 0
place k.Blank = 1
place k.Lacking = 2
place k.NotAscii = 3
place k.OpenComment = 4
place k.Other = 5
place k.Newline = 6
place k.Name = 7
place k.Percent = 8
place k.ClassName = 9
place k.GlobalName = 10
place k.UnknownCommand = 11
place k.Digits = 12
place k.One = 13
place k.LongDigits = 14
place k.Text = 15
place k.Shared = 16
place k.OpenText = 17
place k.BadText = 18
place k.Open = 19
place k.OpenArgs = 20
place k.Close = 21
place k.LBrace = 22
place k.RBrace = 23
place k.Comma = 24
place k.Colon = 25
place k.Equals = 26
place k.Plus = 27
place k.Minus = 28
place k.Not = 29
place k.Add = 30
place k.Subtract = 31
place k.Multiply = 32
place k.Quotient = 33
place k.Modulo = 34
place k.Join = 35
place k.Less = 36
place k.Greater = 37
place k.AtMost = 38
place k.AtLeast = 39
place k.Contains = 40
place k.Follows = 41
place k.And = 42
place k.Or = 43
place k.NotEqual = 44
place k.NotLess = 45
place k.NotGreater = 46
place k.NotContains = 47
place k.NotFollows = 48
place k.AndThen = 49
place k.OrElse = 50
place k.Line = 51
place k.Dot = 52
place k.Own = 53
place k.Caret = 54
place k.ClassOpen = 55
place k.ClassClose = 56
place k.LastError = 57
place k.Test = 58
place k.Level = 59
place k.This = 60
place k.Get = 61
place k.Data = 62
place k.Order = 63
place k.Increment = 64
place k.Length = 65
place k.Extract = 66
place k.Piece = 67
place k.Find = 68
place k.Ascii = 69
place k.Char = 70
place k.ListBuild = 71
place k.List = 72
place k.ListLength = 73
place k.UnknownFunction = 74
place k.Set = 75
place k.Write = 76
place k.Do = 77
place k.Quit = 78
place k.Kill = 79
place k.Lock = 80
place k.TStart = 81
place k.TCommit = 82
place k.TRollback = 83
place k.Halt = 84
place k.If = 85
place k.ElseIf = 86
place k.Else = 87
place k.For = 88
place k.While = 89

pub there : (h : Kind) → nth (place h) kinds ≡ Some h
there k.End = refl
there k.Blank = refl
there k.Lacking = refl
there k.NotAscii = refl
there k.OpenComment = refl
there k.Other = refl
there k.Newline = refl
there k.Name = refl
there k.Percent = refl
there k.ClassName = refl
there k.GlobalName = refl
there k.UnknownCommand = refl
there k.Digits = refl
there k.One = refl
there k.LongDigits = refl
there k.Text = refl
there k.Shared = refl
there k.OpenText = refl
there k.BadText = refl
there k.Open = refl
there k.OpenArgs = refl
there k.Close = refl
there k.LBrace = refl
there k.RBrace = refl
there k.Comma = refl
there k.Colon = refl
there k.Equals = refl
there k.Plus = refl
there k.Minus = refl
there k.Not = refl
there k.Add = refl
there k.Subtract = refl
there k.Multiply = refl
there k.Quotient = refl
there k.Modulo = refl
there k.Join = refl
there k.Less = refl
there k.Greater = refl
there k.AtMost = refl
there k.AtLeast = refl
there k.Contains = refl
there k.Follows = refl
there k.And = refl
there k.Or = refl
there k.NotEqual = refl
there k.NotLess = refl
there k.NotGreater = refl
there k.NotContains = refl
there k.NotFollows = refl
there k.AndThen = refl
there k.OrElse = refl
there k.Line = refl
there k.Dot = refl
there k.Own = refl
there k.Caret = refl
there k.ClassOpen = refl
there k.ClassClose = refl
there k.LastError = refl
there k.Test = refl
there k.Level = refl
there k.This = refl
there k.Get = refl
there k.Data = refl
there k.Order = refl
there k.Increment = refl
there k.Length = refl
there k.Extract = refl
there k.Piece = refl
there k.Find = refl
there k.Ascii = refl
there k.Char = refl
there k.ListBuild = refl
there k.List = refl
there k.ListLength = refl
there k.UnknownFunction = refl
there k.Set = refl
there k.Write = refl
there k.Do = refl
there k.Quit = refl
there k.Kill = refl
there k.Lock = refl
there k.TStart = refl
there k.TCommit = refl
there k.TRollback = refl
there k.Halt = refl
there k.If = refl
there k.ElseIf = refl
there k.Else = refl
there k.For = refl
there k.While = refl

abbrev pub all_kinds : Kinds Kind
all_kinds = record { list = kinds; all = λ test e h. nth_of test kinds e (place h) h (there h) }
