-- What is asked of the objects of a save, and of what the process knows.
use Rattle.std.specs.Prelude.{◌≡◌, ◌||◌, ◌⊎◌, ◌<◌, ◌^◌, ℕ, suc, Bool, true, false, nat_lt, List, [], ◌∷◌, Option, None, Some}
use Rattle.std.specs.List.{list_any}
use Rattle.obj_kinds.specs.declared.name.ClassName.{ClassName}
use Rattle.schema_kinds.specs.declared.class.Class.{Class}
use Rattle.schema_kinds.specs.declared.key.Key.{Key}
use Rattle.schema_kinds.specs.Classes.{IsBelow}
use Rattle.storage_map.specs.SoundWorlds.{IsSoundAt}
use Rattle.storage_map.specs.Keys.{Side, sides_of, target_key}
use Rattle.object_calls.specs.Saves.{Drawn, ToSave, Item, items_of, is_key}
use Rattle.object_runs.specs.Causes.{Each, Has}
use Rattle.object_runs.specs.Headline.{is_extent_of}

-- ---- ids for the new objects

-- a number that a counter may give
abbrev pub IsNumbered : List ℕ → Type 0
IsNumbered id = (i : ℕ) × (id ≡ suc i ∷ []) × (suc i < 10 ^ 18)

abbrev pub IdsFor : (Drawn → Type 0) → ToSave → Option (List ℕ) → Drawn → Type 0
IdsFor rest o (Some id) ds = rest ds
IdsFor rest o None [] = ⊥
IdsFor rest o None (d ∷ ds) = (d.0 ≡ o.number) × IsNumbered d.1 × rest ds

-- one for each new object, in turn
abbrev pub AreIdsFor : List ToSave → Drawn → Type 0
AreIdsFor [] [] = Unit {0}
AreIdsFor [] (d ∷ ds) = ⊥
AreIdsFor (o ∷ os) ds = IdsFor (AreIdsFor os) o o.id ds

-- ---- the objects

abbrev pub key_with : ClassName → List ℕ → Key
key_with extent id = record { extent = extent; id = id }

-- a key that no live object has, none of these, and none that the process knows
abbrev pub IsFree : (Key → Bool) → List (Key × ClassName) → List Key → Key → Type 0
IsFree is_live known keys key = ((is_live key || list_any (is_key key) keys) ≡ false) × (list_any (λ (k : Key × ClassName). is_key key k.0) known ≡ false)

abbrev pub FreeBy : (Key → Bool) → List (Key × ClassName) → ClassName → (List Key → Drawn → Type 0) → List Key → Option (List ℕ) → Drawn → Type 0
FreeBy is_live known extent rest keys (Some id) ds = rest keys ds
FreeBy is_live known extent rest keys None [] = ⊥
FreeBy is_live known extent rest keys None (d ∷ ds) = IsFree is_live known keys (key_with extent d.1) × rest (key_with extent d.1 ∷ keys) ds

-- the keys of the new objects are such, each beside those drawn before
abbrev pub AreFree : (Key → Bool) → List (Key × ClassName) → List Key → List ToSave → Drawn → Type 0
AreFree is_live known keys [] ds = Unit {0}
AreFree is_live known keys (o ∷ os) ds = FreeBy is_live known o.extent (λ ks e. AreFree is_live known ks os e) keys o.id ds

-- an object that isn't new is a live one
abbrev pub IsLive : (Key → Bool) → ClassName → Option (List ℕ) → Type 0
IsLive is_live extent None = Unit {0}
IsLive is_live extent (Some id) = is_live (key_with extent id) ≡ true

-- none of them has this key already
abbrev pub NoneHas : Key → List ToSave → Type 0
NoneHas key [] = Unit {0}
NoneHas key (o ∷ os) = (o.id ≡ None ⊎ ((id : List ℕ) × (o.id ≡ Some id) × (is_key key (key_with o.extent id) ≡ false))) × NoneHas key os

abbrev pub IsNoLater : ClassName → Option (List ℕ) → List ToSave → Type 0
IsNoLater extent None os = Unit {0}
IsNoLater extent (Some id) os = NoneHas (key_with extent id) os

-- no two of them have one key
abbrev pub AreApart : List ToSave → Type 0
AreApart [] = Unit {0}
AreApart (o ∷ os) = IsNoLater o.extent o.id os × AreApart os

-- Where a one side of an object leads: to one that the save puts too, or to one whose class the process knows. Either is at or below the
-- declared class.
pub record FitsTarget (classes : List Class) (known : List (Key × ClassName)) (items : List Item) (class : ClassName) (target : Key) : Type 0 where
  pub put : (i : Item) → Has i items → i.key ≡ target → IsBelow classes i.now.class class
  pub other : list_any (λ i. is_key target i.key) items ≡ false → (c : ClassName) × Has (target, c) known × IsBelow classes c class

-- the record fits its key, and its one sides their targets
pub record FitsItem (classes : List Class) (known : List (Key × ClassName)) (items : List Item) (i : Item) : Type 0 where
  pub sound : IsSoundAt classes i.key i.now
  pub targets : (s : Side) (id : List ℕ) → Has s (sides_of classes i.now) → s.target ≡ Some id → FitsTarget classes known items s.class (target_key classes s.class id)

-- what is asked of the objects of a save
pub record CanBeSaved (classes : List Class) (is_live : Key → Bool) (known : List (Key × ClassName)) (os : List ToSave) : Type 0 where
  pub extents : Each (λ (o : ToSave). is_extent_of classes o.extent ≡ true) os
  pub levels : Each (λ (o : ToSave). nat_lt 0 o.level ≡ true) os
  pub live : Each (λ (o : ToSave). IsLive is_live o.extent o.id) os
  pub apart : AreApart os
  -- with whatever ids may be drawn
  pub fits : (drawn : Drawn) → AreIdsFor os drawn → AreFree is_live known [] os drawn → Each (FitsItem classes known (items_of drawn os)) (items_of drawn os)
