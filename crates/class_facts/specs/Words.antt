-- Words that may be given.
use Rattle.std.specs.Prelude.{ℕ, Bool, true, false, List, Option, Some, None}
use Rattle.schema_kinds.specs.Hierarchy.{same_text}
use Rattle.class_facts.specs.Facts.{option_any}

-- the word is this one
abbrev pub is_word : Option (List ℕ) → List ℕ → Bool
is_word given word = option_any (λ text. same_text text word) given

-- both are given and equal, or none is given
abbrev pub same_word : Option (List ℕ) → Option (List ℕ) → Bool
same_word None None = true
same_word None (Some b) = false
same_word (Some a) None = false
same_word (Some a) (Some b) = same_text a b
