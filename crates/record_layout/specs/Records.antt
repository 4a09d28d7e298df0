-- The nodes of one record, and nothing else.
use Rattle.std.specs.Prelude.{true, ◌≡◌, ◌⊎◌, ℕ, List, [], ◌∷◌, map, Some}
use Rattle.std.specs.FinMap.{get, contains_key}
use Rattle.obj_kinds.specs.declared.node.Node.{Node}
use Rattle.obj_kinds.specs.declared.sub.Sub.{Sub}
use Rattle.obj_kinds.specs.declared.sub.Sub.TheVariants.{Str}
use Rattle.obj_kinds.specs.declared.value.Value.{Value}
use Rattle.obj_kinds.specs.declared.value.Value.TheVariants as value
use Rattle.schema_kinds.specs.declared.class.Class.{Class}
use Rattle.schema_kinds.specs.declared.key.Key.{Key}
use Rattle.schema_kinds.specs.declared.record.Record.{Record}
use Rattle.record_layout.specs.Shapes.{Rise}
use Rattle.record_layout.specs.Layout.{Layout, layout_of}
use Rattle.record_layout.specs.Rows.{Globals, data_node, below, marker, row_list, rows, maps_in}
use Rattle.schema_kinds.specs.declared.kind.Item.{Item}
use Rattle.schema_kinds.specs.declared.record.Field.{Field}
use Rattle.record_layout.specs.Reading.{Source, Read, read_fields}

-- the node is one of the list
abbrev pub IsAmong : Node → List (Node × Value) → Type 0
IsAmong n [] = ⊥
IsAmong n (e ∷ es) = (n ≡ e.0) ⊎ IsAmong n es

-- a record was read, and no further node is there
pub record IsReadWhole (classes : List Class) (key : Key) (g : Globals) (s : Source) (r : Record) : Type 0 where
  pub values : (way : List Sub) → s.value way ≡ get g (below (data_node key) way)
  pub rising : (name : List ℕ) → Rise (s.keys name)
  pub items : List Value
  pub row : get g (data_node key) ≡ Some (value.List (value.Str (marker key.extent r.class) ∷ items))
  pub read : read_fields classes s (layout_of classes r.class) items ≡ Read r.fields
  pub only : (n : Node) (v : Value) → get g n ≡ Some v → IsAmong n (row_list classes key r)

-- no node stands twice
abbrev pub AreApart : List (Node × Value) → Type 0
AreApart [] = Unit {0}
AreApart (e ∷ es) = (IsAmong e.0 es → ⊥) × AreApart es

-- the source has the keys of these elements
abbrev pub HaveKeys : Source → List (List ℕ × Item) → List (List (Sub × Field)) → Type 0
HaveKeys s [] [] = Unit {0}
HaveKeys s [] (m ∷ maps) = ⊥
HaveKeys s (a ∷ as') [] = ⊥
HaveKeys s (a ∷ as') (m ∷ maps) = (s.keys a.0 ≡ map (λ e. e.0) m) × HaveKeys s as' maps

-- the source is that of the rows of a record, which stand at different nodes
pub record IsSourceOf (classes : List Class) (key : Key) (s : Source) (r : Record) : Type 0 where
  pub apart : AreApart (row_list classes key r)
  pub values : (way : List Sub) → s.value way ≡ get (rows classes key r) (below (data_node key) way)
  pub keys : HaveKeys s (layout_of classes r.class).arrays (maps_in r.fields)
  pub rising : (name : List ℕ) → Rise (s.keys name)

abbrev pub IsIn : Sub → List Sub → Type 0
IsIn k [] = ⊥
IsIn k (j ∷ js) = (k ≡ j) ⊎ IsIn k js

-- something stands at the key of an array, or below it
abbrev pub StandsAt : Globals → Node → List ℕ → Sub → Type 0
StandsAt g row name k = (rest : List Sub) × (contains_key g (below row (Str name ∷ k ∷ rest)) ≡ true)

-- the source is that of some globals: their values, and the keys in order
pub record IsTrueSource (g : Globals) (row : Node) (s : Source) : Type 0 where
  pub values : (way : List Sub) → s.value way ≡ get g (below row way)
  pub rising : (name : List ℕ) → Rise (s.keys name)
  pub true_keys : (name : List ℕ) (k : Sub) → IsIn k (s.keys name) → StandsAt g row name k
  pub all_keys : (name : List ℕ) (k : Sub) → StandsAt g row name k → IsIn k (s.keys name)

abbrev pub IsNotNamed : {X : Type 0} → List ℕ → List (List ℕ × X) → Type 0
IsNotNamed name [] = Unit {0}
IsNotNamed name (e ∷ es) = (name ≡ e.0 → ⊥) × IsNotNamed name es

-- no two have one name
abbrev pub HaveNames : {X : Type 0} → List (List ℕ × X) → Type 0
HaveNames [] = Unit {0}
HaveNames (e ∷ es) = IsNotNamed e.0 es × HaveNames es

-- no two lists below the row have one name, and no two arrays
pub record HaveDifferentNames (layout : Layout) : Type 0 where
  pub lower : HaveNames layout.lower
  pub arrays : HaveNames layout.arrays
