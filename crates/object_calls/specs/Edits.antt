-- The edits that turn the nodes of one record of a key into those of another, in node order.
use Rattle.std.specs.Prelude.{List, [], Option, None, Some}
use Rattle.obj_kinds.specs.declared.node.Node.{Node}
use Rattle.obj_kinds.specs.declared.value.Value.{Value}
use Rattle.schema_kinds.specs.declared.class.Class.{Class}
use Rattle.schema_kinds.specs.declared.key.Key.{Key}
use Rattle.schema_kinds.specs.declared.record.Record.{Record}
use Rattle.record_layout.specs.Rows.{row_list}
use Rattle.storage_map.specs.Entries.{entry_list, valued_empty}
use Rattle.storage_map.specs.Ordered.{put_all}
use Rattle.storage_map.specs.Changes.{stale, differing}
use Rattle.storage_map.specs.declared.edits.Edits.{Edits}

-- the nodes of a record in node order, and its entries
abbrev pub ordered_rows : List Class → Key → Option Record → List (Node × Value)
ordered_rows classes key None = []
ordered_rows classes key (Some r) = put_all [] (row_list classes key r)

abbrev pub ordered_entries : List Class → Key → Option Record → List (Node × Value)
ordered_entries classes key None = []
ordered_entries classes key (Some r) = put_all [] (valued_empty (entry_list classes key r))

-- what only the old record has is killed, and what is new or differs is set
unfoldable pub edits_of : List Class → Key → Option Record → Option Record → Edits
edits_of classes key old new = record {
  entry_kills = stale (ordered_entries classes key old) (ordered_entries classes key new);
  row_kills = stale (ordered_rows classes key old) (ordered_rows classes key new);
  row_sets = differing (ordered_rows classes key old) (ordered_rows classes key new);
  entry_sets = differing (ordered_entries classes key old) (ordered_entries classes key new);
}
