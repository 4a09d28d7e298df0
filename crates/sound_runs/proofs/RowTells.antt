-- A row tells whether its object is in the view.
use Rattle.std.proofs.Common.{◌≡◌, Bool, true, false, cond, List, [], Option, Some, None, is_some, refl, sym, ap, ◌∙◌}
use Rattle.std.specs.Ordering.{eq_by_cmp}
use Rattle.std.specs.FinMap.{get, get-from_entries}
use Rattle.obj_kinds.specs.declared.value.Value.{Value}
use Rattle.obj_kinds.specs.Order.{node_cmp}
use Rattle.obj_kinds.specs.OrderLaws.{node_total}
use Rattle.schema_kinds.specs.declared.class.Class.{Class}
use Rattle.schema_kinds.specs.declared.key.Key.{Key}
use Rattle.schema_kinds.specs.declared.record.Record.{Record}
use Rattle.record_layout.specs.Rows.{data_node, below, row_list, rows}
use Rattle.storage_map.specs.Entries.{entries}
use Rattle.storage_map.specs.Worlds.{owner, or_value, stands_at}
use Rattle.storage_map.proofs.OwnerLaws.{rows_belong}
use Rattle.object_runs.specs.ObjectMachine.{view}
use Rattle.object_runs.specs.Invariant.{shown}
use Rattle.sound_runs.specs.Reads.{RowsTellObjects}
use Rattle.sound_runs.proofs.Counters.{same_node}
use Rattle.sound_runs.proofs.Viewed.{row_viewed}

bare_row : (key : Key) → below (data_node key) [] ≡ data_node key
unfolding data_node
bare_row key = refl

first_found : (b : Bool) (v : Value) (y : Option Value) → b ≡ true → is_some (cond b (Some v) y) ≡ true
first_found true v y e = refl
first_found false v y e = absurd (cc e)

-- the first node of a record is its row
row_first : (classes : List Class) (key : Key) (r : Record) → is_some (get (rows classes key r) (data_node key)) ≡ true
unfolding rows row_list
row_first classes key r =
    ap is_some (get-from_entries node_total (row_list classes key r) (data_node key))
    ∙ first_found _ _ _ (ap (eq_by_cmp node_cmp (data_node key)) (bare_row key) ∙ same_node (data_node key))

some_or : (x y : Option Value) → is_some x ≡ true → is_some (or_value x y) ≡ true
some_or None y e = absurd (cc e)
some_or (Some v) y e = refl

pub row_stands : (classes : List Class) (key : Key) (r : Record) → is_some (stands_at classes key (data_node key) r) ≡ true
unfolding stands_at
row_stands classes key r = some_or (get (rows classes key r) (data_node key)) (get (entries classes key r) (data_node key)) (row_first classes key r)

shown_row : (classes : List Class) (key : Key) (x : Option Record) → is_some (shown classes key (data_node key) x) ≡ is_some x
shown_row classes key None = refl
shown_row classes key (Some r) = row_stands classes key r

pub rows_tell_objects : RowsTellObjects
rows_tell_objects classes s o p key inv real h bare =
    ap is_some (row_viewed classes s o inv (data_node key) key (ap (owner classes) (sym (bare_row key)) ∙ rows_belong classes key [] real) p h ∙ bare (shown classes key (data_node key) (get (view o p.0) key)))
    ∙ shown_row classes key (get (view o p.0) key)
