-- What the worked processes that open objects show, step by step.
use Rattle.std.proofs.Common.{refl, ◌∙◌}
use Rattle.std.specs.Fmt.{digits}
use Rattle.obj_kinds.specs.Subscript as subs
use Rattle.obj_kinds.specs.Subscript.{whole_of, is_number}
use Rattle.obj_kinds.specs.IdReading.{part_in, id_in}
use Rattle.obj_kinds.specs.NodeText.{node_text}
use Rattle.obj_kinds.specs.Limits.{is_legal_text, is_legal_node, is_legal_sub, is_sub_text, is_global_name}
use Rattle.record_layout.specs.Items.{row_field}
use Rattle.record_layout.specs.Layout.{line_of, layout_of}
use Rattle.record_layout.specs.Rows.{data_node, marker}
use Rattle.storage_map.specs.Markers.{row_class}
use Rattle.storage_map.specs.Entries.{index_key, key_node, entry_node, entry_list, has_legal_entries}
use Rattle.store_calls.specs.Walks.{child, walk}
use Rattle.os_meaning.specs.Values.{joins, subscript_of, after_of}
use Rattle.os_meaning.specs.Frames.{at_node, gets, sets, kills, increments, orders, calls, calls_own, writes}
use Rattle.os_meaning.specs.Meaning.{frame}
use Rattle.oref_table.specs.Memory.{edited, loosed, with_object}
use Rattle.obj_props.specs.Properties.{prop_read}
use Rattle.object_calls.specs.Extents.{is_at_or_below, has_several}
use Rattle.object_calls.specs.Reading.{read, read_as}
use Rattle.object_calls.specs.Loads.{load, raise}
use Rattle.object_calls.specs.ObjectCalls.{open_object, open_text, open_id}
use Rattle.host_meaning.specs.Methods.{method_of}
use Rattle.object_members.specs.Seeing.{with_loaded}
use Rattle.object_members.specs.Reads.{read_prop}
use Rattle.object_members.specs.Members.{on_class, on_object, on_items}
use Rattle.worked_processes.proofs.Views.{views}
use Rattle.worked_processes.proofs.Drops.{drops}
use Rattle.worked_processes.proofs.Playing.{playing, process-plays}
use Rattle.os_meaning.specs.Samples.{block}
use Rattle.worked_processes.specs.Bank.{IsWorked}
use Rattle.worked_processes.specs.Loading.{lets_go, overwrites, asks_for_saver, opens_low}

pub lets_go_worked : IsWorked lets_go
unfolding digits is_legal_text whole_of is_number subs.number_in part_in id_in is_legal_node is_legal_sub is_sub_text is_global_name node_text row_field line_of layout_of data_node marker row_class index_key key_node entry_node entry_list has_legal_entries child walk joins subscript_of after_of at_node gets sets kills increments orders calls calls_own writes frame edited loosed with_object prop_read is_at_or_below has_several read read_as load raise open_object open_text open_id method_of with_loaded read_prop on_class on_object on_items denote.Hole.Carrier.out
lets_go_worked = process-plays lets_go.classes lets_go.tries lets_go.units (block lets_go.script) lets_go.replies ∙ simp (playing, views, drops) refl

pub overwrites_worked : IsWorked overwrites
unfolding digits is_legal_text whole_of is_number subs.number_in part_in id_in is_legal_node is_legal_sub is_sub_text is_global_name node_text row_field line_of layout_of data_node marker row_class index_key key_node entry_node entry_list has_legal_entries child walk joins subscript_of after_of at_node gets sets kills increments orders calls calls_own writes frame edited loosed with_object prop_read is_at_or_below has_several read read_as load raise open_object open_text open_id method_of with_loaded read_prop on_class on_object on_items denote.Hole.Carrier.out
overwrites_worked = process-plays overwrites.classes overwrites.tries overwrites.units (block overwrites.script) overwrites.replies ∙ simp (playing, views, drops) refl

pub asks_for_saver_worked : IsWorked asks_for_saver
unfolding digits is_legal_text whole_of is_number subs.number_in part_in id_in is_legal_node is_legal_sub is_sub_text is_global_name node_text row_field line_of layout_of data_node marker row_class index_key key_node entry_node entry_list has_legal_entries child walk joins subscript_of after_of at_node gets sets kills increments orders calls calls_own writes frame edited loosed with_object prop_read is_at_or_below has_several read read_as load raise open_object open_text open_id method_of with_loaded read_prop on_class on_object on_items denote.Hole.Carrier.out
asks_for_saver_worked = process-plays asks_for_saver.classes asks_for_saver.tries asks_for_saver.units (block asks_for_saver.script) asks_for_saver.replies ∙ simp (playing, views, drops) refl

pub opens_low_worked : IsWorked opens_low
unfolding digits is_legal_text whole_of is_number subs.number_in part_in id_in is_legal_node is_legal_sub is_sub_text is_global_name node_text row_field line_of layout_of data_node marker row_class index_key key_node entry_node entry_list has_legal_entries child walk joins subscript_of after_of at_node gets sets kills increments orders calls calls_own writes frame edited loosed with_object prop_read is_at_or_below has_several read read_as load raise open_object open_text open_id method_of with_loaded read_prop on_class on_object on_items denote.Hole.Carrier.out
opens_low_worked = process-plays opens_low.classes opens_low.tries opens_low.units (block opens_low.script) opens_low.replies ∙ simp (playing, views, drops) refl
