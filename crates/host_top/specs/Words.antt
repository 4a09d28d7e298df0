-- The words of a run.
use Rattle.std.specs.Prelude.{◌≡◌, ℕ, Bool, false, ◌==◌, List, [], ◌∷◌, codes, nat_eq, IsTrue, not}
use Rattle.std.specs.List.{ends_with}

-- the names of a class file and of a script
pub record Names : Type 0 where
  pub class : List ℕ
  pub script : List ℕ

abbrev pub is_class_file : List ℕ → Bool
is_class_file name = ends_with nat_eq name (codes ".cls")

abbrev pub begins_with_dash : List ℕ → Bool
begins_with_dash [] = false
begins_with_dash (byte ∷ name) = byte == 45

-- `run`, a name that ends in `.cls` and one that doesn't, neither with `-` in front
pub record AreRunWords (words : List (List ℕ)) (n : Names) : Type 0 where
  pub words_are : words ≡ codes "run" ∷ n.class ∷ n.script ∷ []
  pub class_file : IsTrue (is_class_file n.class)
  pub script_file : IsTrue (not (is_class_file n.script))
  pub class_plain : IsTrue (not (begins_with_dash n.class))
  pub script_plain : IsTrue (not (begins_with_dash n.script))

-- no names make these the words of a run
abbrev pub AreNoRunWords : List (List ℕ) → Type 0
AreNoRunWords words = (n : Names) → AreRunWords words n → ⊥
