-- Texts that are read line by line.
use Rattle.std.specs.Prelude.{◌≡◌, ℕ, ◌+◌, Bool, true, false, if◌then◌else◌, Option, Some, None, List, [], ◌∷◌, ◌++◌, length, Result, Ok, Err}
use Rattle.text_lines.specs.declared.stop.BadLine.{BadLine}
use Rattle.text_lines.specs.declared.stop.LineStop.{LineStop}
use Rattle.text_lines.specs.declared.stop.LineStop.TheVariants as line
use Rattle.text_lines.specs.declared.stop.TextStop.{TextStop}
use Rattle.text_lines.specs.declared.stop.TextStop.TheVariants as text
use Rattle.text_lines.specs.Lines.{Bytes}

-- Each line changes what was said, or is bad; the first one has the number n.
unfoldable pub read_lines : {A W : Type 0} → (A → Bytes → Result A W) → ℕ → A → List Bytes → Result A (BadLine W)
read_lines step n a [] = Ok a
read_lines step n a (z ∷ zs) = elim (step a z) [ Ok b ↦ read_lines step (n + 1) b zs | Err why ↦ Err (record { line = n; why = why }) ]

-- the lowest of several reasons: the first in this order whose test holds
unfoldable pub lowest : {W : Type 0} → List (Bool × W) → Option W
lowest [] = None
lowest (t ∷ ts) = if t.0 then Some t.1 else lowest ts

-- ---- the law, without a word of how

-- all these lines are good, and lead from the one to the other
pub data AreGood {A W : Type 0} (step : A → Bytes → Result A W) : A → List Bytes → A → Type 0 where
  NoLine : {a : A} → AreGood step a [] a
  Line : {a b c : A} {z : Bytes} {zs : List Bytes} → step a z ≡ Ok b → AreGood step b zs c → AreGood step a (z ∷ zs) c

-- The line is bad for this reason, and all before it are good; the first line has the number n.
pub record IsFirstBad {A W : Type 0} (step : A → Bytes → Result A W) (n : ℕ) (a : A) (zs : List Bytes) (r : BadLine W) : Type 0 where
  pub before : List Bytes
  pub bad : Bytes
  pub after : List Bytes
  pub parts : zs ≡ before ++ bad ∷ after
  pub said : A
  pub good : AreGood step a before said
  pub why : step said bad ≡ Err r.why
  pub line : r.line ≡ n + length before

-- What is answered: all lines are good, or this is the first bad one.
abbrev pub IsAnswer : {A W : Type 0} → (A → Bytes → Result A W) → A → List Bytes → Result A (BadLine W) → Type 0
IsAnswer step a zs (Ok x) = AreGood step a zs x
IsAnswer step a zs (Err r) = IsFirstBad step 1 a zs r

-- No earlier reason holds, and this one does.
pub record IsLowest {W : Type 0} (tests : List (Bool × W)) (why : W) : Type 0 where
  pub earlier : List (Bool × W)
  pub later : List (Bool × W)
  pub parts : tests ≡ earlier ++ (true, why) ∷ later
  pub none : lowest earlier ≡ None

-- ---- what the code answers, unless memory ran out

-- for a whole text
abbrev pub Says : {A W : Type 0} → Result A (BadLine W) → Result A (TextStop W) → Type 0
Says outcome (Ok x) = outcome ≡ Ok x
Says outcome (Err text.Memory) = Unit {0}
Says outcome (Err (text.Bad b)) = outcome ≡ Err b

-- for one line
abbrev pub SaysLine : {A W : Type 0} → Result A W → Result A (LineStop W) → Type 0
SaysLine outcome (Ok x) = outcome ≡ Ok x
SaysLine outcome (Err line.Memory) = Unit {0}
SaysLine outcome (Err (line.Bad why)) = outcome ≡ Err why
