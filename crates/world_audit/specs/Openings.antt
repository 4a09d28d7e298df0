-- What a run may start with: globals whose nodes of the schema are the image of a sound world, with right counters.
use Rattle.std.specs.Prelude.{◌≡◌, ◌⊎◌, ℕ, ◌≤◌, ◌<◌, ◌^◌, pos, Bool, true, false, not, ◌&&◌, List, [], ◌∷◌, ◌++◌, codes, Option, Some, None, is_some}
use Rattle.std.specs.FinMap.{get}
use Rattle.std.specs.List.{list_any}
use Rattle.obj_kinds.specs.declared.name.ClassName.{ClassName}
use Rattle.obj_kinds.specs.declared.node.Node.{Node}
use Rattle.obj_kinds.specs.declared.value.Value.{Value}
use Rattle.obj_kinds.specs.Values.{as_value}
use Rattle.schema_kinds.specs.declared.class.Class.{Class}
use Rattle.schema_kinds.specs.declared.key.Key.{Key}
use Rattle.schema_kinds.specs.declared.record.Record.{Record}
use Rattle.schema_kinds.specs.Classes.{class_names, is_own_global}
use Rattle.schema_kinds.specs.Worlds.{World}
use Rattle.global_tree.specs.Contents.{Globals}
use Rattle.storage_map.specs.Worlds.{extent_with, is_root_named, image}
use Rattle.storage_map.specs.SoundWorlds.{IsSound}

-- ---- the schema's nodes

abbrev pub is_bare : {A : Type 0} → List A → Bool
is_bare [] = true
is_bare (x ∷ xs) = false

-- the counter of an extent: its data global without subscripts
abbrev pub is_counter : List Class → Node → Bool
is_counter classes n = is_bare n.subs && is_some (extent_with (class_names classes) 68 n.global classes)

-- a node of a global of the schema, counters aside
unfoldable pub is_object_node : List Class → Node → Bool
is_object_node classes n = is_own_global classes n.global && not (is_counter classes n)

-- ---- counters

-- the node that counts the ids of an extent
abbrev pub counter_node : ClassName → Node
counter_node extent = record { global = extent.0 ++ codes "D"; subs = [] }

-- ids have one number
abbrev pub first_number : List ℕ → ℕ
first_number [] = 0
first_number (i ∷ id) = i

-- absent, which counts 0, or a whole number as it is written
abbrev pub Counts : Option Value → ℕ → Type 0
Counts v n = ((v ≡ None) × (n ≡ 0)) ⊎ ((v ≡ Some (as_value (pos n))) × (n < 10 ^ 18))

-- a root class of the schema names it
abbrev pub is_extent_of : List Class → ClassName → Bool
is_extent_of classes extent = list_any (is_root_named (class_names classes) extent) classes

-- the counter of the extent is at least each id of it
pub record IsCounted (g : Globals) (w : World) (extent : ClassName) : Type 0 where
  pub number : ℕ
  pub counts : Counts (get g (counter_node extent)) number
  pub enough : (key : Key) (r : Record) → get w key ≡ Some r → key.extent ≡ extent → first_number key.id ≤ number

-- ---- the start

-- the schema's nodes are the image of a sound world, and each counter is at least the ids of its extent
pub record Opening (classes : List Class) (g : Globals) (w : World) : Type 0 where
  pub sound : IsSound classes w
  pub image : (n : Node) → is_object_node classes n ≡ true → get g n ≡ image classes w n
  pub counters : (extent : ClassName) → is_extent_of classes extent ≡ true → IsCounted g w extent
