-- What stands below a key node while a save writes, and whose key it is in the world where the true cause looks for it.
use Rattle.std.specs.Prelude.{◌≡◌, ◌≢◌, ◌↔◌, ℕ, true, false, List, [], ◌∷◌, ◌++◌, filter, Option, Some, None}
use Rattle.std.specs.FinMap.{get}
use Rattle.obj_kinds.specs.declared.name.ClassName.{ClassName}
use Rattle.obj_kinds.specs.declared.node.Node.{Node}
use Rattle.obj_kinds.specs.declared.sub.Sub.{Sub}
use Rattle.obj_kinds.specs.declared.sub.Sub.TheVariants.{Str}
use Rattle.obj_kinds.specs.Ids.{id_text}
use Rattle.obj_kinds.specs.Order.{sub_cmp}
use Rattle.obj_kinds.specs.Subscript.{sub_of}
use Rattle.obj_kinds.specs.Texts.{same_text}
use Rattle.std.specs.declared.cmp.Ordering.TheVariants.{Greater}
use Rattle.schema_kinds.specs.declared.class.Class.{Class}
use Rattle.schema_kinds.specs.declared.class.Index.{Index}
use Rattle.schema_kinds.specs.declared.key.Key.{Key}
use Rattle.schema_kinds.specs.declared.record.Record.{Record}
use Rattle.schema_kinds.specs.declared.record.Part.{Part}
use Rattle.schema_kinds.specs.declared.record.Part.TheVariants.{Put, Del}
use Rattle.schema_kinds.specs.Classes.{class_of}
use Rattle.schema_kinds.specs.Worlds.{World, Change, apply}
use Rattle.storage_map.specs.Entries.{indexes_of}
use Rattle.storage_map.specs.SoundWorlds.{Clash}
use Rattle.object_calls.specs.Keys.{MovedKey}
use Rattle.object_runs.specs.Causes.{HasKeyNode, searched, IsFree, IsFirstTaken, keys_changed}
use Rattle.sound_runs.specs.Closing.{entry_stands, IsVacant, AreDistinct}

-- no name stands twice
abbrev pub IsNoName : List ℕ → List Index → Type 0
IsNoName name [] = Unit {0}
IsNoName name (i ∷ is) = (same_text i.name name ≡ false) × IsNoName name is

abbrev pub AreNamedApart : List Index → Type 0
AreNamedApart [] = Unit {0}
AreNamedApart (i ∷ is) = IsNoName i.name is × AreNamedApart is

-- the unique indexes of a class have different names
abbrev pub HasApartIndexes : List Class → ClassName → Type 0
HasApartIndexes classes class = AreNamedApart (filter (λ i. i.unique) (indexes_of (class_of classes class)))

abbrev pub KeepsClass : List Class → World → Part → Type 0
KeepsClass classes v (Put key r) = ((old : Record) → get v key ≡ Some old → old.class ≡ r.class) × HasApartIndexes classes r.class
KeepsClass classes v (Del key) = ⊥

-- a change of objects of a save: each key once, each object with the class that it has in the view, in which unique indexes have different names
abbrev pub KeepClasses : List Class → World → Change → Type 0
KeepClasses classes v [] = Unit {0}
KeepClasses classes v (x ∷ c) = KeepsClass classes v x × KeepClasses classes v c

pub record IsSaved (classes : List Class) (v : World) (change : Change) : Type 0 where
  pub distinct : AreDistinct change
  pub classes_kept : KeepClasses classes v change

-- the first subscript of a key node is the index's name
abbrev pub IsOfIndex : Node → List ℕ → Type 0
IsOfIndex n index = (ss : List Sub) × (n.subs ≡ Str index ∷ ss)

-- an entry of another object of the extent stands below the key node exactly where that object has the key node in the world that is searched
abbrev pub StandsWhereSearched : Type 0
StandsWhereSearched =
    (classes : List Class) (v : World) (front : Change) (key : Key) (r : Record) (back : Change) (index : List ℕ) (n : Node) (id : List ℕ) → IsSaved classes v (front ++ Put key r ∷ back) → IsOfIndex n index → id ≢ key.id
    → (entry_stands classes v front back (record { extent = key.extent; id = id }) n ≡ true) ↔ HasKeyNode classes (searched classes v front key index back) key.extent n id

-- the object itself isn't in it
abbrev pub NotItself : Type 0
NotItself =
    (classes : List Class) (v : World) (front : Change) (key : Key) (r : Record) (back : Change) (index : List ℕ) (n : Node) → IsSaved classes v (front ++ Put key r ∷ back)
    → HasKeyNode classes (searched classes v front key index back) key.extent n key.id → ⊥

-- so a vacant node is free
abbrev pub VacantIsFree : Type 0
VacantIsFree =
    (classes : List Class) (v : World) (front : Change) (key : Key) (r : Record) (back : Change) (index : List ℕ) (n : Node) → IsSaved classes v (front ++ Put key r ∷ back) → IsOfIndex n index
    → IsVacant classes v front key back n → IsFree classes (searched classes v front key index back) key.extent (Some n)

-- ---- the true cause of a save whose new key is taken

abbrev pub IsVacantNode : List Class → World → Change → Key → Change → Option Node → Type 0
IsVacantNode classes v front key back None = Unit {0}
IsVacantNode classes v front key back (Some n) = IsVacant classes v front key back n

-- the new nodes of moved keys of an object, which comes between `front` and `back`, were vacant when it was written
abbrev pub AreVacant : List Class → World → Change → Key → Change → List MovedKey → Type 0
AreVacant classes v front key back [] = Unit {0}
AreVacant classes v front key back (m ∷ ms) = IsVacantNode classes v front key back m.new × AreVacant classes v front key back ms

abbrev pub IsVacantPart : List Class → World → Change → Part → Change → Type 0
IsVacantPart classes v front (Put key r) back = AreVacant classes v front key back (keys_changed classes v key r)
IsVacantPart classes v front (Del key) back = Unit {0}

-- At the first moved key of a save, in the order of objects and of their indexes, below whose new node something stands when it is looked
-- for, the entry of `id` is the first one, and another object's.
pub record IsFoundBelow (classes : List Class) (v : World) (change : Change) (index id : List ℕ) (n : Node) : Type 0 where
  pub front : Change
  pub key : Key
  pub object : Record
  pub back : Change
  pub parts : change ≡ front ++ Put key object ∷ back
  pub earlier : List MovedKey
  pub moved : MovedKey
  pub later : List MovedKey
  pub keys : keys_changed classes v key object ≡ earlier ++ moved ∷ later
  pub named : moved.index ≡ index
  pub at : moved.new ≡ Some n
  pub another : id ≢ key.id
  pub stands : entry_stands classes v front back (record { extent = key.extent; id = id }) n ≡ true
  pub least : (other : List ℕ) → other ≢ key.id → entry_stands classes v front back (record { extent = key.extent; id = other }) n ≡ true → sub_cmp (sub_of (id_text id)) (sub_of (id_text other)) ≢ Greater
  pub vacant : AreVacant classes v front key back earlier
  pub before : (f : Change) (x : Part) (b : Change) → front ≡ f ++ x ∷ b → IsVacantPart classes v f x (b ++ Put key object ∷ back)

-- then this index and id are what the true cause names, and the change would clash
abbrev pub FoundIsTaken : Type 0
FoundIsTaken =
    (classes : List Class) (v : World) (change : Change) (index id : List ℕ) (n : Node) → IsSaved classes v change → IsFoundBelow classes v change index id n
    → IsFirstTaken classes v change index id n × ((a : Key) × (b : Key) × Clash classes (apply change v) a b)
