-- How the OREFs in copies add up: each names an object from before, or one of the new ones, which is named once.
use Rattle.std.specs.Prelude.{◌≡◌, ℕ, ◌+◌, List, [], ◌∷◌, length}
use Rattle.oref_table.specs.declared.obj.NewObj.{NewObj}
use Rattle.oref_table.specs.Refs.{times}
use Rattle.oref_table.specs.Making.{refs_of_new}

-- the numbers of new objects, behind the last one
abbrev pub numbers_from : ℕ → List NewObj → List ℕ
numbers_from last [] = []
numbers_from last (n ∷ ns) = (last + 1) ∷ numbers_from (last + 1) ns

-- `refs` stand in what is copied
pub record AddsUp (start last : ℕ) (made : List NewObj) (named refs : List ℕ) : Type 0 where
  pub long : last ≡ start + length made
  pub even : (n : ℕ) → times n refs + times n (refs_of_new made) ≡ times n named + times n (numbers_from start made)
