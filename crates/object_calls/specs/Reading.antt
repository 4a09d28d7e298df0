-- How a call reads the record of a key: the row, the lists below it, and each array, element by element.
use Rattle.std.specs.Prelude.{ℕ, Bool, cond, List, [], ◌∷◌, ◌++◌, Option, None, Some, is_some, option_map}
use Rattle.std.specs.List.{filter_map, flat_map}
use Rattle.obj_kinds.specs.declared.name.ClassName.{ClassName}
use Rattle.obj_kinds.specs.declared.node.Node.{Node}
use Rattle.obj_kinds.specs.declared.sub.Sub.{Sub}
use Rattle.obj_kinds.specs.declared.sub.Sub.TheVariants.{Str}
use Rattle.obj_kinds.specs.declared.value.Value.{Value}
use Rattle.obj_kinds.specs.declared.op.Op.TheVariants.{Get}
use Rattle.obj_kinds.specs.declared.op.Reply.{Reply}
use Rattle.obj_kinds.specs.declared.op.Reply.TheVariants.{Found}
use Rattle.obj_kinds.specs.declared.cause.Cause.{Cause}
use Rattle.obj_kinds.specs.declared.cause.Cause.TheVariants.{Damaged}
use Rattle.schema_kinds.specs.declared.class.Class.{Class}
use Rattle.schema_kinds.specs.declared.key.Key.{Key}
use Rattle.schema_kinds.specs.declared.kind.Item.{Item}
use Rattle.schema_kinds.specs.declared.record.Field.{Field}
use Rattle.schema_kinds.specs.declared.record.Record.{Record}
use Rattle.record_layout.specs.Inverse.{each_read}
use Rattle.record_layout.specs.Shapes.{Form, single}
use Rattle.record_layout.specs.Items.{row_field}
use Rattle.record_layout.specs.Layout.{Layout, layout_of}
use Rattle.record_layout.specs.Rows.{data_node, below}
use Rattle.record_layout.specs.Reading.{fields_in, merged}
use Rattle.storage_map.specs.Markers.{row_class}
use Rattle.record_reading.specs.Rows.{items_behind}
use Rattle.storage_map.specs.Entries.{has_legal_entries}
use Rattle.store_calls.specs.Calls.{Call, Give, Ask, Tag, Tried, Got, Lost, then, each}
use Rattle.store_calls.specs.Walks.{Elements, walk, first_walk}

-- the value that a reply tells
abbrev pub value_found : Reply → Option Value
value_found (Found v) = Some v
value_found _ = None

-- what was read at a node, or that it is damaged
abbrev pub or_damaged_at : {A : Type 0} → Node → Option A → Tried A
or_damaged_at n None = Lost (Damaged n)
or_damaged_at n (Some a) = Got a

module _ (classes : List Class) (key : Key) (tag : Tag) (most : ℕ) where
  abbrev pub node_at : List Sub → Node
  node_at way = below (data_node key) way

  -- the list of a class below the root
  abbrev pub read_list : List ℕ × List Form → Call (Tried (List Field))
  read_list l = Ask (Get (node_at (Str l.0 ∷ []))) tag (λ r. Give (or_damaged_at (node_at (Str l.0 ∷ [])) (fields_in classes l.1 (value_found r))))

  abbrev pub is_element : Item → Node → Value → Bool
  is_element i n v = is_some (row_field classes (single i) v)

  abbrev pub element_fields : Item → Elements → List (Sub × Field)
  element_fields i es = filter_map (λ e. option_map (λ f. (e.0, f)) (row_field classes (single i) e.1)) es

  abbrev pub read_array : List ℕ × Item → Call (Tried (List (Sub × Field)))
  read_array a = then (walk (node_at (Str a.0 ∷ [])) tag (is_element a.1) most first_walk) (λ es. Give (Got (element_fields a.1 es)))

  -- a record of which an entry would pass a limit is damaged
  abbrev pub within_limits : Record → Tried (Option Record)
  within_limits r = cond (has_legal_entries classes key r) (Got (Some r)) (Lost (Damaged (data_node key)))

  -- the fields, where those of the row are these
  abbrev pub read_below : ClassName → Layout → List Field → Call (Tried (Option Record))
  read_below class layout first =
      then (each read_list layout.lower) (λ lists.
      then (each read_array layout.arrays) (λ maps.
      Give (within_limits (record { class = class; fields = merged layout.forms (first ++ flat_map (λ fields. fields) lists) maps }))))

  -- a record of the class, where the row has these items behind its marker
  unfoldable pub read_as : ClassName → List Value → Call (Tried (Option Record))
  read_as class items = then (Give (or_damaged_at (data_node key) (each_read (row_field classes) (layout_of classes class).root items))) (read_below class (layout_of classes class))

  abbrev pub on_refusal : ClassName → List Value → Option Cause → Call (Tried (Option Record))
  on_refusal class items (Some x) = Give (Lost x)
  on_refusal class items None = read_as class items

  abbrev pub on_marker : (ClassName → Option Cause) → List Value → Option ClassName → Call (Tried (Option Record))
  on_marker refuses items None = Give (Lost (Damaged (data_node key)))
  on_marker refuses items (Some class) = on_refusal class items (refuses class)

  abbrev pub on_row : (ClassName → Option Cause) → Option Value → Call (Tried (Option Record))
  on_row refuses None = Give (Got None)
  on_row refuses (Some v) = on_marker refuses (items_behind v) (row_class classes key.extent v)

  -- The record of the key, or none where there is no row. A class may be refused as soon as the row names it. Else the first node
  -- that is missing or has the wrong form is damaged, at once.
  unfoldable pub read : (ClassName → Option Cause) → Call (Tried (Option Record))
  read refuses = Ask (Get (data_node key)) tag (λ r. on_row refuses (value_found r))
