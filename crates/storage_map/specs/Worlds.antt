-- Worlds of records, and the nodes that they have.
use Rattle.std.specs.Prelude.{◌≡◌, ℕ, pos, negsuc, zero, suc, Bool, true, false, cond, ◌&&◌, ◌||◌, nat_eq, List, [], ◌∷◌, length, Option, None, Some}
use Rattle.std.specs.Option.{option_and_then}
use Rattle.std.specs.List.{list_any}
use Rattle.std.specs.FinMap.{get}
use Rattle.obj_kinds.specs.declared.name.ClassName.{ClassName}
use Rattle.obj_kinds.specs.declared.node.Node.{Node}
use Rattle.obj_kinds.specs.declared.sub.Sub.{Sub}
use Rattle.obj_kinds.specs.declared.sub.Sub.TheVariants.{Num, Str}
use Rattle.obj_kinds.specs.declared.value.Value.{Value}
use Rattle.obj_kinds.specs.IdReading.{id_in}
use Rattle.schema_kinds.specs.declared.class.Class.{Class}
use Rattle.schema_kinds.specs.declared.key.Key.{Key}
use Rattle.schema_kinds.specs.declared.record.Record.{Record}
use Rattle.schema_kinds.specs.declared.kind.Kind.{Kind}
use Rattle.schema_kinds.specs.declared.kind.Kind.TheVariants as kind
use Rattle.schema_kinds.specs.declared.prop.Prop.{Prop}
use Rattle.schema_kinds.specs.Worlds.{World}
use Rattle.obj_kinds.specs.Texts.{same_text}
use Rattle.schema_kinds.specs.Classes.{class_names, extent_of, is_with, is_root}
use Rattle.record_layout.specs.Shapes.{AreOfForms, id_length, IsIdOf}
use Rattle.record_layout.specs.Layout.{layout_of}
use Rattle.record_layout.specs.Rows.{rows}
use Rattle.storage_map.specs.Markers.{is_extent}
use Rattle.storage_map.specs.Entries.{entries}

-- the id that a subscript is
abbrev pub id_of_sub : Sub → Option (List ℕ)
id_of_sub (Num (pos zero)) = None
id_of_sub (Num (pos (suc n))) = Some (suc n ∷ [])
id_of_sub (Num (negsuc n)) = None
id_of_sub (Str text) = id_in text

abbrev pub first_sub : List Sub → Option Sub
first_sub [] = None
first_sub (s ∷ ss) = Some s

abbrev pub last_sub : List Sub → Option Sub
last_sub [] = None
last_sub (s ∷ []) = Some s
last_sub (s ∷ t ∷ ss) = last_sub (t ∷ ss)

-- the extent whose global of that letter this is
abbrev pub extent_with : List (List ℕ) → ℕ → List ℕ → List Class → Option ClassName
extent_with names letter global [] = None
extent_with names letter global (c ∷ cs) =
    cond (is_with global c.name.0 letter && is_root names c) (Some c.name) (extent_with names letter global cs)

abbrev pub key_with : List Class → ClassName → List ℕ → Option Key
key_with classes extent id = cond (nat_eq (length id) (id_length classes extent)) (Some record { extent = extent; id = id }) None

abbrev pub key_at : List Class → Option Sub → ClassName → Option Key
key_at classes sub extent = option_and_then (key_with classes extent) (option_and_then id_of_sub sub)

abbrev pub or_key : Option Key → Option Key → Option Key
or_key None other = other
or_key (Some key) other = Some key

-- a one side of that name
abbrev pub is_side_named : List ℕ → Prop → Kind → Bool
is_side_named name p (kind.One class side) = same_text p.name name
is_side_named name p _ = false

-- the class has entries of that name with so many values
abbrev pub has_entries : List ℕ → ℕ → Class → Bool
has_entries name n c =
    list_any (λ i. same_text i.name name && nat_eq (length i.props) n) c.indexes || (nat_eq n 1 && list_any (λ p. is_side_named name p p.kind) c.props)

-- some class of the extent has such entries
abbrev pub extent_has : List Class → ClassName → List ℕ → ℕ → Bool
extent_has classes extent name n = list_any (λ c. is_extent extent (extent_of classes c.name) && has_entries name n c) classes

-- of an entry its last subscript tells the key; behind its name it has a value for each property, and the id
abbrev pub entry_key : List Class → List Sub → ClassName → Option Key
entry_key classes (Str name ∷ s ∷ ss) extent = cond (extent_has classes extent name (length ss)) (key_at classes (last_sub (s ∷ ss)) extent) None
entry_key classes _ extent = None

-- the key that a node belongs to: of a data node its first subscript tells it; a node of the index global that no
-- record of the extent may have belongs to none
unfoldable pub owner : List Class → Node → Option Key
owner classes n =
    or_key (option_and_then (key_at classes (first_sub n.subs)) (extent_with (class_names classes) 68 n.global classes))
    (option_and_then (entry_key classes n.subs) (extent_with (class_names classes) 73 n.global classes))

abbrev pub or_value : Option Value → Option Value → Option Value
or_value None other = other
or_value (Some v) other = Some v

-- what a record has at a node
unfoldable pub stands_at : List Class → Key → Node → Record → Option Value
stands_at classes key n r = or_value (get (rows classes key r) n) (get (entries classes key r) n)

abbrev pub owned_at : List Class → World → Node → Option Key → Option Value
owned_at classes w n None = None
owned_at classes w n (Some key) = option_and_then (stands_at classes key n) (get w key)

-- the value that a world gives a node
unfoldable pub image : List Class → World → Node → Option Value
image classes w n = owned_at classes w n (owner classes n)

-- the extent is named by its root class
abbrev pub is_root_named : List (List ℕ) → ClassName → Class → Bool
is_root_named names extent c = same_text c.name.0 extent.0 && is_root names c

-- the key has an extent of the schema, and an id of it
pub record IsKeyOf (classes : List Class) (key : Key) : Type 0 where
  pub extent : list_any (is_root_named (class_names classes) key.extent) classes ≡ true
  pub id : IsIdOf classes key.extent key.id

-- a record of a class of the key's extent, in the shape of its class
pub record IsRecordOf (classes : List Class) (key : Key) (r : Record) : Type 0 where
  pub extent : extent_of classes r.class ≡ Some key.extent
  pub id : IsIdOf classes key.extent key.id
  pub fields : AreOfForms classes (layout_of classes r.class).forms r.fields
