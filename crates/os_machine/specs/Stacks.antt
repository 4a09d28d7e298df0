-- Lists of which the last value put is the first.
use Rattle.std.specs.Prelude.{List, [], ◌∷◌, Option, Some, None}

abbrev pub top_of : {A : Type 0} → List A → Option A
top_of [] = None
top_of (v ∷ vs) = Some v

-- the list without the value below the top one
abbrev pub without_under : {A : Type 0} → List A → List A
without_under [] = []
without_under (r ∷ []) = r ∷ []
without_under (r ∷ v ∷ vs) = r ∷ vs

-- the list without the value below the two on top
abbrev pub without_third : {A : Type 0} → List A → List A
without_third [] = []
without_third (r ∷ []) = r ∷ []
without_third (r ∷ s ∷ []) = r ∷ s ∷ []
without_third (r ∷ s ∷ v ∷ vs) = r ∷ s ∷ vs
