-- What of a record is locked beside its row: keys of unique indexes, entries of one sides, members of many sides.
use Rattle.std.specs.Prelude.{ℕ, Bool, true, false, cond, List, [], ◌∷◌, Option, None, Some, option_map}
use Rattle.std.specs.List.{filter_map}
use Rattle.obj_kinds.specs.declared.name.ClassName.{ClassName}
use Rattle.obj_kinds.specs.declared.node.Node.{Node}
use Rattle.obj_kinds.specs.Texts.{same_text}
use Rattle.obj_kinds.specs.Subscript.{sub_of}
use Rattle.obj_kinds.specs.Ids.{id_text}
use Rattle.schema_kinds.specs.declared.class.Class.{Class}
use Rattle.schema_kinds.specs.declared.key.Key.{Key}
use Rattle.schema_kinds.specs.declared.kind.Kind.{Kind}
use Rattle.schema_kinds.specs.declared.kind.Kind.TheVariants as kind
use Rattle.schema_kinds.specs.Classes.{class_of}
use Rattle.storage_map.specs.Entries.{key_node, entry_if, props_in}
pub use Rattle.storage_map.specs.Keys.{same_node, Unique, unique_in, uniques_of, Side, target_in, side_in, sides_of, target_key}
use Rattle.object_calls.specs.Extents.{extent_at}

-- one whose key differs: the old and the new node
pub record MovedKey : Type 0 where
  pub index : List ℕ
  pub old : Option Node
  pub new : Option Node

abbrev pub moved_key : Option Node → Unique → List MovedKey → List MovedKey
moved_key old u rest = cond (same_node old u.node) rest (record { index = u.index; old = old; new = u.node } ∷ rest)

-- an object that is new had no key
abbrev pub moved_keys : List Unique → List Unique → List MovedKey
moved_keys olds [] = []
moved_keys [] (u ∷ us) = moved_key None u (moved_keys [] us)
moved_keys (o ∷ os) (u ∷ us) = moved_key o.node u (moved_keys os us)

-- ---- one sides

-- the entry of an object whose side has this target
abbrev pub side_node : Key → List ℕ → Option (List ℕ) → Option Node
side_node key name target = entry_if key name (option_map (λ id. sub_of (id_text id) ∷ []) target)

-- one whose target differs
pub record MovedSide : Type 0 where
  pub name : List ℕ
  pub class : ClassName
  pub old : Option (List ℕ)
  pub new : Option (List ℕ)

abbrev pub same_target : Option (List ℕ) → Option (List ℕ) → Bool
same_target None None = true
same_target (Some a) (Some b) = same_text a b
same_target _ _ = false

abbrev pub moved_side : Option (List ℕ) → Side → List MovedSide → List MovedSide
moved_side old s rest = cond (same_target old s.target) rest (record { name = s.name; class = s.class; old = old; new = s.target } ∷ rest)

abbrev pub moved_sides : List Side → List Side → List MovedSide
moved_sides olds [] = []
moved_sides [] (s ∷ ss) = moved_side None s (moved_sides [] ss)
moved_sides (o ∷ os) (s ∷ ss) = moved_side o.target s (moved_sides os ss)

-- ---- many sides

-- the class of the members, and their one side
pub record ManySide : Type 0 where
  pub class : ClassName
  pub side : List ℕ

abbrev pub many_side_in : Kind → Option ManySide
many_side_in (kind.Many class side) = Some (record { class = class; side = side })
many_side_in _ = None

-- those of a class, in order
abbrev pub many_sides : List Class → ClassName → List ManySide
many_sides classes class = filter_map (λ p. many_side_in p.kind) (props_in (class_of classes class))

-- the node below which the entries of the members of an object stand
abbrev pub members_node : List Class → ManySide → List ℕ → Node
members_node classes m id = key_node (record { extent = extent_at classes m.class; id = id }) m.side (sub_of (id_text id) ∷ [])
