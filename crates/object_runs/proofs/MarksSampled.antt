-- What worked calls note, by computation.
use Rattle.std.proofs.Common.{refl}
use Rattle.std.specs.Fmt.{digits}
use Rattle.schema_kinds.specs.declared.record.Field as field
use Rattle.obj_kinds.specs.Subscript as subs
use Rattle.obj_kinds.specs.Subscript.{whole_of, is_number}
use Rattle.obj_kinds.specs.IdReading.{part_in, id_in}
use Rattle.obj_kinds.specs.Order.{node_cmp}
use Rattle.obj_kinds.specs.Limits.{is_legal_node, is_legal_sub, is_sub_text, is_global_name}
use Rattle.schema_kinds.specs.Worlds.{key_cmp}
use Rattle.record_layout.specs.Items.{row_field}
use Rattle.record_layout.specs.Layout.{line_of, layout_of}
use Rattle.record_layout.specs.Rows.{data_node, marker, row_list}
use Rattle.storage_map.specs.Markers.{row_class}
use Rattle.storage_map.specs.Entries.{index_key, key_node, entry_node, entry_list}
use Rattle.storage_map.specs.Changes.{stale, differing}
use Rattle.storage_map.specs.Entries.{has_legal_entries}
use Rattle.store_calls.specs.Walks.{child, walk}
use Rattle.object_calls.proofs.Lists.{list_out, text_out}
use Rattle.object_calls.specs.Extents.{is_at_or_below, has_several}
use Rattle.object_calls.specs.Reading.{read, read_as}
use Rattle.object_calls.specs.Edits.{edits_of}
use Rattle.object_calls.specs.Loads.{load}
use Rattle.object_calls.specs.Deletes.{deleting, delete}
use Rattle.object_calls.specs.Saves.{look, lock_keys, test_targets, kill_entries, write, save_items, save}
use Rattle.object_runs.specs.MarkSamples.{OpensAccount, SavesAccount, FailsToSave, DeletesAccount, FailsToDelete}

pub opens_account : OpensAccount
unfolding digits whole_of is_number subs.number_in part_in id_in is_legal_node is_legal_sub is_sub_text is_global_name row_field line_of layout_of data_node marker row_class index_key key_node entry_node entry_list has_legal_entries child walk is_at_or_below has_several read read_as load field.out-Field denote.Hole.Carrier.out
opens_account = simp (list_out, text_out) refl

pub saves_account : SavesAccount
unfolding digits whole_of is_number subs.number_in part_in id_in node_cmp key_cmp line_of layout_of data_node marker row_list index_key key_node entry_node entry_list stale differing edits_of look lock_keys test_targets kill_entries write save_items save field.out-Field denote.Hole.Carrier.out
saves_account = refl

pub fails_to_save : FailsToSave
unfolding digits whole_of is_number subs.number_in part_in id_in node_cmp key_cmp line_of layout_of data_node marker row_list index_key key_node entry_node entry_list stale differing edits_of look lock_keys test_targets kill_entries write save_items save field.out-Field denote.Hole.Carrier.out
fails_to_save = refl

pub deletes_account : DeletesAccount
unfolding digits whole_of is_number subs.number_in part_in id_in node_cmp is_legal_node is_legal_sub is_sub_text is_global_name row_field line_of layout_of data_node marker row_list row_class index_key key_node entry_node entry_list stale has_legal_entries child walk is_at_or_below read read_as edits_of deleting delete field.out-Field denote.Hole.Carrier.out
deletes_account = simp (list_out, text_out) refl

pub fails_to_delete : FailsToDelete
unfolding digits whole_of is_number subs.number_in part_in id_in node_cmp is_legal_node is_legal_sub is_sub_text is_global_name row_field line_of layout_of data_node marker row_list row_class index_key key_node entry_node entry_list stale has_legal_entries child walk is_at_or_below read read_as edits_of deleting delete field.out-Field denote.Hole.Carrier.out
fails_to_delete = simp (list_out, text_out) refl
