-- Members by name, with the spots where they are declared.
use Rattle.std.specs.Prelude.{◌≡◌, ℕ, Bool, cond, not, List, [], ◌∷◌, ◌++◌, Option, is_some, fold}
use Rattle.std.specs.List.{filter}
use Rattle.std.specs.Map.{lookup}
use Rattle.indexmap.specs.IndexMap.{insert_entry}
use Rattle.schema_kinds.specs.Hierarchy.{same_text}
use Rattle.class_facts.specs.declared.spots.Spot.{Spot}

-- the spot of a name: that of its first pair
abbrev pub spot_of : List ℕ → List (List ℕ × Spot) → Option Spot
spot_of name spots = lookup (same_text name) spots

-- a pair goes last, where its name isn't there yet
abbrev pub add_spot : List (List ℕ × Spot) → List ℕ × Spot → List (List ℕ × Spot)
add_spot spots pair = cond (is_some (spot_of pair.0 spots)) spots (spots ++ pair ∷ [])

-- a pair takes the place of the one of its name, or goes last
abbrev pub put_spot : List (List ℕ × Spot) → List ℕ × Spot → List (List ℕ × Spot)
put_spot spots pair = insert_entry same_text spots pair.0 pair.1

abbrev pub add_spots : List (List ℕ × Spot) → List (List ℕ × Spot) → List (List ℕ × Spot)
add_spots spots pairs = fold add_spot spots pairs

abbrev pub put_spots : List (List ℕ × Spot) → List (List ℕ × Spot) → List (List ℕ × Spot)
put_spots spots pairs = fold put_spot spots pairs

abbrev pub has_spot_of : List ℕ → List (List ℕ × Spot) → Bool
has_spot_of name spots = is_some (spot_of name spots)

-- the pairs whose names aren't among the first ones, two of one name among them
abbrev pub fresh_spots : List (List ℕ × Spot) → List (List ℕ × Spot) → List (List ℕ × Spot)
fresh_spots spots pairs = filter (λ e. not (has_spot_of e.0 spots)) pairs

abbrev pub gather_spots : List (List ℕ × Spot) → List (List ℕ × Spot) → List (List ℕ × Spot)
gather_spots spots pairs = spots ++ fresh_spots spots pairs

abbrev pub HaveSameNames : List (List ℕ × Spot) → List (List ℕ × Spot) → Type 0
HaveSameNames spots others = (name : List ℕ) → has_spot_of name spots ≡ has_spot_of name others
