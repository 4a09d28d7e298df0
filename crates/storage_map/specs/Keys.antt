-- What of a record is kept apart from other records': keys of unique indexes, and targets of one sides.
use Rattle.std.specs.Prelude.{ℕ, Bool, true, false, List, map, filter, Option, None, Some, option_map, unwrap_or}
use Rattle.std.specs.List.{filter_map}
use Rattle.std.specs.Ordering.{eq_by_cmp}
use Rattle.obj_kinds.specs.declared.name.ClassName.{ClassName}
use Rattle.obj_kinds.specs.declared.node.Node.{Node}
use Rattle.obj_kinds.specs.Order.{node_cmp}
use Rattle.schema_kinds.specs.declared.class.Class.{Class}
use Rattle.schema_kinds.specs.declared.class.Index.{Index}
use Rattle.schema_kinds.specs.declared.key.Key.{Key}
use Rattle.schema_kinds.specs.declared.kind.Kind.{Kind}
use Rattle.schema_kinds.specs.declared.kind.Kind.TheVariants as kind
use Rattle.schema_kinds.specs.declared.prop.Prop.{Prop}
use Rattle.schema_kinds.specs.declared.record.Field.{Field}
use Rattle.schema_kinds.specs.declared.record.Field.TheOpen.{Field-F}
use Rattle.schema_kinds.specs.declared.record.Field.TheViews.{out-Field}
use Rattle.schema_kinds.specs.declared.record.Record.{Record}
use Rattle.schema_kinds.specs.Classes.{class_of, extent_of}
use Rattle.storage_map.specs.Entries.{index_key, key_node, indexes_of, props_in, with_fields}

abbrev pub same_node : Option Node → Option Node → Bool
same_node None None = true
same_node (Some a) (Some b) = eq_by_cmp node_cmp a b
same_node _ _ = false

-- ---- unique indexes

-- a unique index of a record, and the node below which its entry stands; a key with an empty part has none
pub record Unique : Type 0 where
  pub index : List ℕ
  pub node : Option Node

abbrev pub unique_in : Key → List (Prop × Field) → Index → Unique
unique_in key valued i = record { index = i.name; node = option_map (key_node key i.name) (index_key i valued) }

-- those of a record, in order
abbrev pub uniques_of : List Class → Key → Record → List Unique
uniques_of classes key r =
    let c = class_of classes r.class in
    map (unique_in key (with_fields (props_in c) r.fields)) (filter (λ i. i.unique) (indexes_of c))

-- ---- one sides

-- a one side of a record: the property, the class that it is declared with, and its target
pub record Side : Type 0 where
  pub name : List ℕ
  pub class : ClassName
  pub target : Option (List ℕ)

abbrev pub target_in : Field-F Field → Option (List ℕ)
target_in (Field-F.Target id) = id
target_in _ = None

abbrev pub side_in : Prop × Field → Kind → Option Side
side_in e (kind.One class inverse) = Some (record { name = e.0.name; class = class; target = target_in (out-Field e.1) })
side_in e _ = None

-- those of a record, in order
abbrev pub sides_of : List Class → Record → List Side
sides_of classes r = filter_map (λ e. side_in e e.0.kind) (with_fields (props_in (class_of classes r.class)) r.fields)

-- the extent of a persistent class
abbrev pub extent_at : List Class → ClassName → ClassName
extent_at classes class = unwrap_or (extent_of classes class) class

-- the row of a target
abbrev pub target_key : List Class → ClassName → List ℕ → Key
target_key classes class id = record { extent = extent_at classes class; id = id }
