-- All kinds of token, so that tests of kinds compute.
use Rattle.std.proofs.Common.{◌≡◌, ℕ, zero, suc, Bool, true, false, ◌&&◌, List, [], ◌∷◌, Option, Some, None, refl}
use Rattle.text_reading.proofs.KindTests.{Kinds, each}
use Rattle.class_tokens.specs.declared.token.Kind.{Kind}
use Rattle.class_tokens.specs.declared.token.Kind.TheVariants as k

-- the number-th of a list
abbrev nth : ℕ → List Kind → Option Kind
nth n [] = None
nth zero (h ∷ hs) = Some h
nth (suc n) (h ∷ hs) = nth n hs

left_of : (a b : Bool) → (a && b) ≡ true → a ≡ true
left_of true b e = refl
left_of false b e = absurd (cc)

right_of : (a b : Bool) → (a && b) ≡ true → b ≡ true
right_of true b e = e
right_of false b e = absurd (cc)

pub nth_of : (test : Kind → Bool) (hs : List Kind) → each test hs ≡ true → (n : ℕ) (h : Kind) → nth n hs ≡ Some h → test h ≡ true
nth_of test [] e n h is = absurd (cc)
nth_of test (g ∷ hs) e zero h is = let same : g ≡ h = cc in let t = left_of (test g) (each test hs) e in (cc)
nth_of test (g ∷ hs) e (suc n) h is = nth_of test hs (right_of (test g) (each test hs) e) n h is

abbrev kinds : List Kind
kinds =
    k.End ∷ k.Blank ∷ k.NotAscii ∷ k.OpenComment ∷ k.Other ∷ k.Name ∷ k.Percent ∷ k.Bare ∷ k.Lone ∷
    k.Class ∷ k.Extends ∷ k.Not ∷ k.Property ∷ k.As ∷ k.List ∷ k.Array ∷ k.Of ∷ k.Relationship ∷
    k.Index ∷ k.On ∷ k.Parameter ∷ k.Method ∷ k.ClassMethod ∷ k.Storage ∷ k.LeftOut ∷ k.Dot ∷
    k.Comma ∷ k.Semicolon ∷ k.Equals ∷ k.Minus ∷ k.LParen ∷ k.RParen ∷ k.LBracket ∷ k.RBracket ∷
    k.LBrace ∷ k.RBrace ∷ k.Digits ∷ k.LongDigits ∷ k.Text ∷ k.OpenText ∷ k.BadText ∷ k.Block ∷
    k.OpenBlock ∷ k.BadBlock ∷ k.TornBlock ∷ []

abbrev place : Kind → ℕ
place k.End = 0
place k.Blank = 1
place k.NotAscii = 2
place k.OpenComment = 3
place k.Other = 4
place k.Name = 5
place k.Percent = 6
place k.Bare = 7
place k.Lone = 8
place k.Class = 9
place k.Extends = 10
place k.Not = 11
place k.Property = 12
place k.As = 13
place k.List = 14
place k.Array = 15
place k.Of = 16
place k.Relationship = 17
place k.Index = 18
place k.On = 19
place k.Parameter = 20
place k.Method = 21
place k.ClassMethod = 22
place k.Storage = 23
place k.LeftOut = 24
place k.Dot = 25
place k.Comma = 26
place k.Semicolon = 27
place k.Equals = 28
place k.Minus = 29
place k.LParen = 30
place k.RParen = 31
place k.LBracket = 32
place k.RBracket = 33
place k.LBrace = 34
place k.RBrace = 35
place k.Digits = 36
place k.LongDigits = 37
place k.Text = 38
place k.OpenText = 39
place k.BadText = 40
place k.Block = 41
place k.OpenBlock = 42
place k.BadBlock = 43
place k.TornBlock = 44

pub placed : (h : Kind) → nth (place h) kinds ≡ Some h
placed k.End = refl
placed k.Blank = refl
placed k.NotAscii = refl
placed k.OpenComment = refl
placed k.Other = refl
placed k.Name = refl
placed k.Percent = refl
placed k.Bare = refl
placed k.Lone = refl
placed k.Class = refl
placed k.Extends = refl
placed k.Not = refl
placed k.Property = refl
placed k.As = refl
placed k.List = refl
placed k.Array = refl
placed k.Of = refl
placed k.Relationship = refl
placed k.Index = refl
placed k.On = refl
placed k.Parameter = refl
placed k.Method = refl
placed k.ClassMethod = refl
placed k.Storage = refl
placed k.LeftOut = refl
placed k.Dot = refl
placed k.Comma = refl
placed k.Semicolon = refl
placed k.Equals = refl
placed k.Minus = refl
placed k.LParen = refl
placed k.RParen = refl
placed k.LBracket = refl
placed k.RBracket = refl
placed k.LBrace = refl
placed k.RBrace = refl
placed k.Digits = refl
placed k.LongDigits = refl
placed k.Text = refl
placed k.OpenText = refl
placed k.BadText = refl
placed k.Block = refl
placed k.OpenBlock = refl
placed k.BadBlock = refl
placed k.TornBlock = refl

abbrev pub all_kinds : Kinds Kind
all_kinds = record { list = kinds; all = λ test e h. nth_of test kinds e (place h) h (placed h) }
