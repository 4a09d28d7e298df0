-- The edits of a save are those by which the nodes of records are changed.
use Rattle.std.proofs.Common.{◌≡◌, List, Option, None, Some, ap, ◌∙◌}
use Rattle.std.specs.FinMap.{entries as listed}
use Rattle.obj_kinds.specs.declared.node.Node.{Node}
use Rattle.obj_kinds.specs.declared.value.Value.{Value}
use Rattle.schema_kinds.specs.declared.class.Class.{Class}
use Rattle.schema_kinds.specs.declared.key.Key.{Key}
use Rattle.schema_kinds.specs.declared.record.Record.{Record}
use Rattle.record_layout.specs.Rows.{row_list, rows}
use Rattle.storage_map.specs.Entries.{entry_list, valued_empty, entries}
use Rattle.storage_map.specs.Changes.{stale, differing, rows_if, entries_if, AreChanges}
use Rattle.storage_map.proofs.OrderedLaws.{all_put, none_listed}
use Rattle.object_calls.specs.Edits.{ordered_rows, ordered_entries, edits_of}

pub rows_in_order : (classes : List Class) (key : Key) (r : Option Record) → ordered_rows classes key r ≡ listed (rows_if classes key r)
unfolding rows
rows_in_order classes key None = none_listed
rows_in_order classes key (Some r) = all_put (row_list classes key r)

pub entries_in_order : (classes : List Class) (key : Key) (r : Option Record) → ordered_entries classes key r ≡ listed (entries_if classes key r)
unfolding entries
entries_in_order classes key None = none_listed
entries_in_order classes key (Some r) = all_put (valued_empty (entry_list classes key r))

same_stale : (a b c d : List (Node × Value)) → a ≡ c → b ≡ d → stale a b ≡ stale c d
same_stale a b c d e f = ap (λ x. stale x b) e ∙ ap (λ y. stale c y) f

same_differing : (a b c d : List (Node × Value)) → a ≡ c → b ≡ d → differing a b ≡ differing c d
same_differing a b c d e f = ap (λ x. differing x b) e ∙ ap (λ y. differing c y) f

pub edits_are_changes : (classes : List Class) (key : Key) (old new : Option Record) → AreChanges classes key old new (edits_of classes key old new)
unfolding edits_of
edits_are_changes classes key old new =
    let rows_old = rows_in_order classes key old in
    let rows_new = rows_in_order classes key new in
    let entries_old = entries_in_order classes key old in
    let entries_new = entries_in_order classes key new in
    record {
      entry_kills = same_stale _ _ _ _ entries_old entries_new;
      row_kills = same_stale _ _ _ _ rows_old rows_new;
      row_sets = same_differing _ _ _ _ rows_old rows_new;
      entry_sets = same_differing _ _ _ _ entries_old entries_new;
    }
