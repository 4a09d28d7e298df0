-- The world in the words of a script's reader: who stands in it, and with what.
use Rattle.std.specs.Prelude.{◌≡◌, ℕ, ◌⊎◌, List, [], ◌∷◌, length, Some, slice_get}
use Rattle.first_path.specs.World.{Past, saved_fields, place_among, first_saves, world_after}
use Rattle.first_path.specs.declared.act.Act.TheVariants.{Make, Fill, Save}

-- one of the acts saved the object
abbrev pub IsSavedBy : Past → ℕ → Type 0
IsSavedBy [] object = ⊥
IsSavedBy (Make ∷ before) object = IsSavedBy before object
IsSavedBy (Fill o place text ∷ before) object = IsSavedBy before object
IsSavedBy (Save o ∷ before) object = (o ≡ object) ⊎ IsSavedBy before object

-- what the world after these acts tells
pub record Tells (n : ℕ) (past : Past) : Type 0 where
  -- each object that was saved stands at one place, with its fields as they were at its last save
  pub stands : (object : ℕ) → IsSavedBy past object → (row : ℕ) × (place_among (first_saves past) object ≡ Some row) × (slice_get (world_after n past) row ≡ Some (saved_fields n past object))
  -- no other object does
  pub only : (object row : ℕ) → place_among (first_saves past) object ≡ Some row → IsSavedBy past object
  -- and no place is without one
  pub many : length (world_after n past) ≡ length (first_saves past)

abbrev pub WorldLaw : Type 0
WorldLaw = (n : ℕ) (past : Past) → Tells n past
