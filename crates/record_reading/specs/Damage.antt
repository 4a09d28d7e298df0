-- Why nodes are no record's, in four cases of which the first counts.
use Rattle.std.specs.Prelude.{◌≡◌, Bool, not, cond, List, Option, None, Some, is_some, option_map}
use Rattle.std.specs.List.{find}
use Rattle.std.specs.FinMap as map
use Rattle.obj_kinds.specs.declared.node.Node.{Node}
use Rattle.obj_kinds.specs.declared.value.Value.{Value}
use Rattle.obj_kinds.specs.Order.{node_cmp}
use Rattle.schema_kinds.specs.declared.class.Class.{Class}
use Rattle.schema_kinds.specs.declared.key.Key.{Key}
use Rattle.schema_kinds.specs.declared.record.Record.{Record}
use Rattle.global_tree.specs.Below.{or_else}
use Rattle.record_layout.specs.Rows.{data_node, below, rows}
use Rattle.record_layout.specs.Reading.{Reading, Read, Damaged, damaged_at}
pub use Rattle.storage_map.specs.Entries.{has_legal_entries}
use Rattle.record_reading.specs.Rows.{read_record}

-- a node that isn't in the rows of the record
abbrev pub is_strange : List Class → Key → Record → Node × Value → Bool
is_strange classes key r e = not (is_some (map.find node_cmp e.0 (map.entries (rows classes key r))))

-- the first case: the row is missing
abbrev pub missing_row : Key → List (Node × Value) → Option Node
missing_row key nodes = cond (is_some (map.find node_cmp (data_node key) nodes)) None (Some (data_node key))

-- the second: the first node in the order of reading that is missing or has the wrong form
abbrev pub unread_node : List Class → Key → List (Node × Value) → Option Node
unread_node classes key nodes = option_map (below (data_node key)) (damaged_at (read_record classes key nodes))

-- the third: the row, where an entry of the record would pass a limit
abbrev pub past_limit : List Class → Key → Record → Option Node
past_limit classes key r = cond (has_legal_entries classes key r) None (Some (data_node key))

-- the fourth: the first node that isn't in the rows of the record
abbrev pub strange_node : List Class → Key → List (Node × Value) → Record → Option Node
strange_node classes key nodes r = option_map (λ e. e.0) (find (is_strange classes key r) nodes)

-- the third or the fourth
abbrev pub over : List Class → Key → List (Node × Value) → Record → Option Node
over classes key nodes r = or_else (past_limit classes key r) (strange_node classes key nodes r)

abbrev pub over_read : List Class → Key → List (Node × Value) → Reading Record → Option Node
over_read classes key nodes (Read r) = over classes key nodes r
over_read classes key nodes (Damaged way) = None

-- the node by which nodes of a key are no record's
unfoldable pub damage : List Class → Key → List (Node × Value) → Option Node
damage classes key nodes = or_else (missing_row key nodes) (or_else (unread_node classes key nodes) (over_read classes key nodes (read_record classes key nodes)))
