-- The nodes of worlds: each belongs to one key, and what a change of the world changes.
use Rattle.std.specs.Prelude.{◌≡◌, ◌≢◌, ◌↔◌, ◌++◌, ℕ, Bool, true, List, Option, None, Some}
use Rattle.std.specs.FinMap.{get, insert, remove, entries as listed}
use Rattle.obj_kinds.specs.declared.name.ClassName.{ClassName}
use Rattle.obj_kinds.specs.declared.node.Node.{Node}
use Rattle.obj_kinds.specs.declared.value.Value.{Value}
use Rattle.schema_kinds.specs.declared.class.Class.{Class}
use Rattle.schema_kinds.specs.declared.key.Key.{Key}
use Rattle.schema_kinds.specs.declared.record.Record.{Record}
use Rattle.schema_kinds.specs.Classes.{class_of, extent_of}
use Rattle.schema_kinds.specs.Worlds.{World}
use Rattle.record_layout.specs.Rows.{Globals}
use Rattle.storage_map.specs.declared.edits.Edits.{Edits}
use Rattle.storage_map.specs.Entries.{entries}
use Rattle.storage_map.specs.Changes.{stale, differing, edited, AreChanges}
use Rattle.storage_map.specs.Worlds.{owner, stands_at, image, has_entries, extent_has, IsKeyOf}

-- each record has a key of an extent, and a class of this extent
abbrev pub AreAtTheirKeys : List Class → World → Type 0
AreAtTheirKeys classes w = (key : Key) (r : Record) → get w key ≡ Some r → IsKeyOf classes key × (extent_of classes r.class ≡ Some key.extent)

-- a node of a record, also an entry, belongs to the record's key
abbrev pub NodesBelong : Type 0
NodesBelong =
    (classes : List Class) (key : Key) (r : Record) (n : Node) (v : Value) → IsKeyOf classes key → extent_of classes r.class ≡ Some key.extent → stands_at classes key n r ≡ Some v → owner classes n ≡ Some key

-- no node is one of the records of two keys
abbrev pub NodesAreApart : Type 0
NodesAreApart =
    (classes : List Class) (a b : Key) (r q : Record) (n : Node) (v w : Value) → IsKeyOf classes a → IsKeyOf classes b → extent_of classes r.class ≡ Some a.extent → extent_of classes q.class ≡ Some b.extent
    → stands_at classes a n r ≡ Some v → stands_at classes b n q ≡ Some w → a ≡ b

-- some record of the world has the value at the node
abbrev pub IsGiven : List Class → World → Node → Value → Type 0
IsGiven classes w n v = (key : Key) × (r : Record) × (get w key ≡ Some r) × (stands_at classes key n r ≡ Some v)

-- the image has the values that the records have, and no others
abbrev pub ImageIsUnion : Type 0
ImageIsUnion = (classes : List Class) (w : World) (n : Node) (v : Value) → AreAtTheirKeys classes w → (image classes w n ≡ Some v) ↔ IsGiven classes w n v

-- with one record more, or another one, at a key
pub record IsImageWith (classes : List Class) (w : World) (key : Key) (r : Record) (n : Node) : Type 0 where
  pub own : owner classes n ≡ Some key → image classes (insert w key r) n ≡ stands_at classes key n r
  pub others : owner classes n ≢ Some key → image classes (insert w key r) n ≡ image classes w n

-- with no record at the key
pub record IsImageWithout (classes : List Class) (w : World) (key : Key) (n : Node) : Type 0 where
  pub own : owner classes n ≡ Some key → image classes (remove w key) n ≡ None
  pub others : owner classes n ≢ Some key → image classes (remove w key) n ≡ image classes w n

-- only the key's nodes are replaced
abbrev pub ImagesChangeAtKeys : Type 0
ImagesChangeAtKeys = (classes : List Class) (w : World) (key : Key) (r : Record) (n : Node) → IsImageWith classes w key r n × IsImageWithout classes w key n

-- entries of one name have as many values
abbrev pub AreEven : Option Class → Type 0
AreEven None = Unit {0}
AreEven (Some c) = (name : List ℕ) (m n : ℕ) → has_entries name m c ≡ true → has_entries name n c ≡ true → m ≡ n

-- the changes turn the entries of a record into those of another one of its class
abbrev pub ChangesTurnEntries : Type 0
ChangesTurnEntries =
    (classes : List Class) (key : Key) (old new : Record) (n : Node) → old.class ≡ new.class → AreEven (class_of classes new.class) → let was = entries classes key old in let is = entries classes key new in
    edited (stale (listed was) (listed is)) (differing (listed was) (listed is)) was n ≡ get is n

-- entries of one name in an extent have as many values
abbrev pub IsEvenExtent : List Class → ClassName → Type 0
IsEvenExtent classes extent = (name : List ℕ) (m n : ℕ) → extent_has classes extent name m ≡ true → extent_has classes extent name n ≡ true → m ≡ n

-- what a record has at a node, where there is one
abbrev pub stands_if : List Class → Key → Node → Option Record → Option Value
stands_if classes key n None = None
stands_if classes key n (Some r) = stands_at classes key n r

-- it is of the class, where there is one
abbrev pub IsOfClass : ClassName → Option Record → Type 0
IsOfClass class None = Unit {0}
IsOfClass class (Some r) = r.class ≡ class

-- a node after all kills and then all sets of a change
abbrev pub changed : Edits → Globals → Node → Option Value
changed e g n = edited (e.entry_kills ++ e.row_kills) (e.row_sets ++ e.entry_sets) g n

-- a node of the key has what the new record has there, where it had what the old one has; a node of another key stays
pub record IsTurned (classes : List Class) (key : Key) (old new : Option Record) (e : Edits) (g : Globals) (n : Node) : Type 0 where
  pub own : owner classes n ≡ Some key → get g n ≡ stands_if classes key n old → changed e g n ≡ stands_if classes key n new
  pub others : (k : Key) → owner classes n ≡ Some k → k ≢ key → changed e g n ≡ get g n

-- the changes between two records of a class turn the nodes of the one into those of the other, and no others
abbrev pub ChangesTurnNodes : Type 0
ChangesTurnNodes =
    (classes : List Class) (key : Key) (class : ClassName) (old new : Option Record) (e : Edits) (g : Globals) (n : Node) → IsKeyOf classes key → extent_of classes class ≡ Some key.extent → IsEvenExtent classes key.extent
    → IsOfClass class old → IsOfClass class new → AreChanges classes key old new e → IsTurned classes key old new e g n
