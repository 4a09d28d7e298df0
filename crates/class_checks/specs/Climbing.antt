-- Which places have a way of so many steps up.
use Rattle.std.specs.Prelude.{ℕ, zero, suc, Bool, true, List, [], ◌∷◌}
use Rattle.std.specs.List.{list_any}
use Rattle.schema_kinds.specs.Links.{mark_at}

abbrev pub all_true : List (List ℕ) → List Bool
all_true [] = []
all_true (r ∷ rows) = true ∷ all_true rows

-- for each row whether one of its places is marked
abbrev pub any_marks : List Bool → List (List ℕ) → List Bool
any_marks marks [] = []
any_marks marks (r ∷ rows) = list_any (mark_at marks) r ∷ any_marks marks rows

-- for each place whether some way of k steps leads up from it
abbrev pub climb_marks : ℕ → List (List ℕ) → List Bool
climb_marks zero links = all_true links
climb_marks (suc k) links = any_marks (climb_marks k links) links
