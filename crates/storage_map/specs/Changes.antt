-- What changes the nodes of one record into those of another.
use Rattle.std.specs.Prelude.{◌≡◌, Bool, true, false, not, cond, List, [], ◌∷◌, map, filter, Option, None, Some, is_some}
use Rattle.std.specs.List.{list_any}
use Rattle.std.specs.FinMap.{get, contains_key, entries as listed, empty, find}
use Rattle.obj_kinds.specs.declared.node.Node.{Node}
use Rattle.obj_kinds.specs.declared.value.Value.{Value}
use Rattle.obj_kinds.specs.Values.{same_value}
use Rattle.obj_kinds.specs.Order.{node_cmp, covers}
use Rattle.schema_kinds.specs.declared.class.Class.{Class}
use Rattle.schema_kinds.specs.declared.key.Key.{Key}
use Rattle.schema_kinds.specs.declared.record.Record.{Record}
use Rattle.record_layout.specs.Rows.{Globals, rows}
use Rattle.storage_map.specs.Entries.{entries}
use Rattle.storage_map.specs.declared.edits.Edits.{Edits}

-- whether a value is there, and is this one
abbrev pub same_there : Option Value → Value → Bool
same_there None v = false
same_there (Some w) v = same_value w v

-- the nodes that only the old pairs have, in their order
unfoldable pub stale : List (Node × Value) → List (Node × Value) → List Node
stale old new = map (λ e. e.0) (filter (λ e. not (is_some (find node_cmp e.0 new))) old)

-- the new pairs whose node the old ones lack or have with another value, in their order
unfoldable pub differing : List (Node × Value) → List (Node × Value) → List (Node × Value)
differing old new = filter (λ e. not (same_there (find node_cmp e.0 old) e.1)) new

-- the rows of a record, where there is one
abbrev pub rows_if : List Class → Key → Option Record → Globals
rows_if classes key None = empty
rows_if classes key (Some r) = rows classes key r

-- its entries
abbrev pub entries_if : List Class → Key → Option Record → Globals
entries_if classes key None = empty
entries_if classes key (Some r) = entries classes key r

-- what only the old record has is killed, and what is new or differs is set
pub record AreChanges (classes : List Class) (key : Key) (old new : Option Record) (e : Edits) : Type 0 where
  pub entry_kills : e.entry_kills ≡ stale (listed (entries_if classes key old)) (listed (entries_if classes key new))
  pub row_kills : e.row_kills ≡ stale (listed (rows_if classes key old)) (listed (rows_if classes key new))
  pub row_sets : e.row_sets ≡ differing (listed (rows_if classes key old)) (listed (rows_if classes key new))
  pub entry_sets : e.entry_sets ≡ differing (listed (entries_if classes key old)) (listed (entries_if classes key new))

-- a node after kills and then sets; a kill takes what is below its node along
abbrev pub or_set : Option Value → Option Value → Option Value
or_set None before = before
or_set (Some v) before = Some v

abbrev pub edited : List Node → List (Node × Value) → Globals → Node → Option Value
edited kills sets g n = or_set (find node_cmp n sets) (cond (list_any (λ k. covers k n) kills) None (get g n))

-- no new node is below a stale one
abbrev pub NoneBelow : Globals → Globals → Type 0
NoneBelow old new = (n : Node) → contains_key new n ≡ true → list_any (λ k. covers k n) (stale (listed old) (listed new)) ≡ false
