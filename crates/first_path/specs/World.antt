-- What stands after some acts: the objects, and the world of those that were saved.
use Rattle.std.specs.Prelude.{ℕ, zero, suc, ◌<◌, Bool, cond, ◌&&◌, ◌==◌, List, [], ◌∷◌, ◌++◌, map, reverse, Option, is_some}
use Rattle.first_path.specs.Meaning.{place_of}
use Rattle.first_path.specs.declared.act.Act.{Act}
use Rattle.first_path.specs.declared.act.Act.TheVariants.{Make, Fill, Save}

-- acts that came before, the latest first
abbrev pub Past : Type 0
Past = List Act

-- how many objects were made
abbrev pub objects_made : Past → ℕ
objects_made [] = 0
objects_made (Make ∷ before) = suc (objects_made before)
objects_made (Fill object place text ∷ before) = objects_made before
objects_made (Save object ∷ before) = objects_made before

-- the text that a property of an object was set to last, empty where it never was
abbrev pub value : Past → ℕ → ℕ → List ℕ
value [] object place = []
value (Make ∷ before) object place = value before object place
value (Fill o p text ∷ before) object place = cond (o == object && p == place) text (value before object place)
value (Save o ∷ before) object place = value before object place

-- the values of so many properties, from this place on
abbrev pub values_from : Past → ℕ → ℕ → ℕ → List (List ℕ)
values_from before object place zero = []
values_from before object place (suc n) = value before object place ∷ values_from before object (suc place) n

-- the fields of an object of n properties
abbrev pub fields_of : ℕ → Past → ℕ → List (List ℕ)
fields_of n before object = values_from before object 0 n

-- the fields as they were at the object's last save
abbrev pub saved_fields : ℕ → Past → ℕ → List (List ℕ)
saved_fields n [] object = []
saved_fields n (Make ∷ before) object = saved_fields n before object
saved_fields n (Fill o place text ∷ before) object = saved_fields n before object
saved_fields n (Save o ∷ before) object = cond (o == object) (fields_of n before o) (saved_fields n before object)

-- the place of an object among others
abbrev pub place_among : List ℕ → ℕ → Option ℕ
place_among objects object = place_of (λ o. o == object) objects

-- the objects that were saved, in the order of their first saves
abbrev pub first_saves : Past → List ℕ
first_saves [] = []
first_saves (Make ∷ before) = first_saves before
first_saves (Fill object place text ∷ before) = first_saves before
first_saves (Save object ∷ before) = cond (is_some (place_among (first_saves before) object)) (first_saves before) (first_saves before ++ object ∷ [])

-- the world: the fields of each saved object under the ids 1, 2 and so on, in the order of first saves
abbrev pub world_after : ℕ → Past → List (List (List ℕ))
world_after n before = map (saved_fields n before) (first_saves before)

unfoldable pub world_of : ℕ → List Act → List (List (List ℕ))
world_of n acts = world_after n (reverse acts)

-- the act speaks of an object that was made and of one of n properties
abbrev pub IsKnown : ℕ → Past → Act → Type 0
IsKnown n before Make = Unit {0}
IsKnown n before (Fill object place text) = (object < objects_made before) × (place < n)
IsKnown n before (Save object) = object < objects_made before

-- each act is known behind the earlier ones
abbrev pub AreKnown : ℕ → Past → List Act → Type 0
AreKnown n before [] = Unit {0}
AreKnown n before (act ∷ acts) = IsKnown n before act × AreKnown n (act ∷ before) acts
