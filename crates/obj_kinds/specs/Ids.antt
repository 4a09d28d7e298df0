-- Ids: one to three whole numbers from 1.
use Rattle.std.specs.Prelude.{ℕ, ◌<◌, ◌≤◌, ◌^◌, List, [], ◌∷◌, ◌++◌, codes}
use Rattle.std.specs.Fmt.{decimal}
use Rattle.obj_kinds.specs.declared.id.Parts.{Parts}
use Rattle.obj_kinds.specs.declared.id.Parts.TheVariants.{One, Two, Three}

-- the numbers of the parts
abbrev pub listed : Parts → List ℕ
listed (One a) = a ∷ []
listed (Two a b) = a ∷ b ∷ []
listed (Three a b c) = a ∷ b ∷ c ∷ []

abbrev pub unlisted : List ℕ → Parts
unlisted [] = One 0
unlisted (a ∷ []) = One a
unlisted (a ∷ b ∷ []) = Two a b
unlisted (a ∷ b ∷ c ∷ more) = Three a b c

-- a whole number from 1, of 18 digits at most
abbrev pub IsPart : ℕ → Type 0
IsPart n = (1 ≤ n) × (n < 10 ^ 18)

abbrev pub IsId : List ℕ → Type 0
IsId [] = ⊥
IsId (a ∷ []) = IsPart a
IsId (a ∷ b ∷ []) = IsPart a × IsPart b
IsId (a ∷ b ∷ c ∷ []) = IsPart a × IsPart b × IsPart c
IsId (a ∷ b ∷ c ∷ d ∷ more) = ⊥

-- the numbers joined by `||`
abbrev pub id_text : List ℕ → List ℕ
id_text [] = []
id_text (a ∷ []) = decimal a
id_text (a ∷ b ∷ more) = decimal a ++ (codes "||" ++ id_text (b ∷ more))
