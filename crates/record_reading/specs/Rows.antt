-- How a record is read from the nodes of its key.
use Rattle.std.specs.Prelude.{List, [], ◌∷◌, Option, None, Some}
use Rattle.std.specs.Option.{option_and_then}
use Rattle.std.specs.FinMap.{find}
use Rattle.obj_kinds.specs.declared.name.ClassName.{ClassName}
use Rattle.obj_kinds.specs.declared.node.Node.{Node}
use Rattle.obj_kinds.specs.declared.sub.Sub.TheVariants.{Str}
use Rattle.obj_kinds.specs.declared.value.Value.{Value}
use Rattle.obj_kinds.specs.declared.value.Value.TheViews.{out-Value}
use Rattle.obj_kinds.specs.Order.{node_cmp}
use Rattle.schema_kinds.specs.declared.class.Class.{Class}
use Rattle.schema_kinds.specs.declared.key.Key.{Key}
use Rattle.schema_kinds.specs.declared.record.Record.{Record}
use Rattle.record_layout.specs.Layout.{layout_of}
use Rattle.record_layout.specs.Rows.{data_node, below}
use Rattle.record_layout.specs.Reading.{Reading, Read, Source, then_read, or_damaged, items_of, read_fields}
use Rattle.storage_map.specs.Markers.{row_class}
use Rattle.record_reading.specs.Keys.{keys_below}

-- what nodes in rising order have below a row
abbrev pub source_in : List (Node × Value) → Node → Source
source_in nodes row = record { value = λ way. find node_cmp (below row way) nodes; keys = λ name. keys_below (below row (Str name ∷ [])) nodes }

abbrev pub behind_first : List Value → List Value
behind_first [] = []
behind_first (v ∷ vs) = vs

abbrev pub or_none : Option (List Value) → List Value
or_none None = []
or_none (Some vs) = behind_first vs

-- the items of a row behind its marker
abbrev pub items_behind : Value → List Value
items_behind v = or_none (items_of (out-Value v))

-- the record of a class, where the row has these items behind its marker
abbrev pub read_as : List Class → Source → ClassName → List Value → Reading Record
read_as classes s class items = then_read (read_fields classes s (layout_of classes class) items) (λ fields. Read (record { class = class; fields = fields }))

-- the record whose row this is: its marker names the class
abbrev pub read_by_row : List Class → ClassName → Source → Value → Reading Record
read_by_row classes extent s row = then_read (or_damaged [] (row_class classes extent row)) (λ class. read_as classes s class (items_behind row))

-- the record of a key, read from the row on
unfoldable pub read_record : List Class → Key → List (Node × Value) → Reading Record
read_record classes key nodes =
    then_read (or_damaged [] (find node_cmp (data_node key) nodes)) (λ row. read_by_row classes key.extent (source_in nodes (data_node key)) row)
