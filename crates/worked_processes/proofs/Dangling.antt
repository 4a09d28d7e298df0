-- A reference whose target is gone, step by step.
use Rattle.std.proofs.Common.{◌≡◌, ℕ, suc, Bool, ap, ◌++◌, refl, ◌∙◌, List, [], ◌∷◌, Some, None, take, drop, true, false, codes}
use Rattle.std.specs.Fmt.{digits}
use Rattle.obj_kinds.specs.Subscript as subs
use Rattle.obj_kinds.specs.Subscript.{whole_of, is_number}
use Rattle.obj_kinds.specs.IdReading.{part_in, id_in}
use Rattle.obj_kinds.specs.NodeText.{node_text}
use Rattle.obj_kinds.specs.Order.{node_cmp}
use Rattle.obj_kinds.specs.Limits.{is_legal_text, is_legal_node, is_legal_sub, is_sub_text, is_global_name}
use Rattle.schema_kinds.specs.declared.record.Field as field
use Rattle.schema_kinds.specs.Worlds.{key_cmp}
use Rattle.record_layout.specs.Items.{row_field}
use Rattle.record_layout.specs.Layout.{line_of, layout_of}
use Rattle.record_layout.specs.Rows.{data_node, marker, row_list}
use Rattle.storage_map.specs.Markers.{row_class}
use Rattle.storage_map.specs.Entries.{index_key, key_node, entry_node, entry_list, has_legal_entries}
use Rattle.storage_map.specs.Changes.{stale, differing}
use Rattle.store_calls.specs.Walks.{child, walk}
use Rattle.os_meaning.specs.Values.{joins, subscript_of, after_of}
use Rattle.os_meaning.specs.Frames.{Rest, at_node, gets, sets, kills, increments, orders, calls, calls_own, writes}
use Rattle.os_meaning.specs.Meaning.{frame, runs}
use Rattle.oref_table.specs.Memory.{edited, loosed, with_object}
use Rattle.obj_shape.specs.Records.{record_of}
use Rattle.obj_props.specs.Properties.{prop_read}
use Rattle.obj_validity.specs.Faults.{root_fits, list_fits, object_fault}
use Rattle.object_calls.specs.Extents.{is_at_or_below, has_several}
use Rattle.object_calls.specs.Reading.{read, read_as}
use Rattle.object_calls.specs.Edits.{edits_of}
use Rattle.object_calls.specs.Loads.{load, raise}
use Rattle.object_calls.specs.Deletes.{deleting, delete}
use Rattle.object_calls.specs.Saves.{look, lock_keys, test_targets, kill_entries, write, save_items, save}
use Rattle.object_calls.specs.Reach.{reached}
use Rattle.object_calls.specs.Memories.{written}
use Rattle.object_calls.specs.ObjectCalls.{open_object, open_text, open_id, save_object, delete_text, delete_id, next_id, member_at}
use Rattle.host_meaning.specs.Methods.{method_of}
use Rattle.object_members.specs.Seeing.{with_saved, with_loaded, with_member, is_marked, fault_of, record_in}
use Rattle.prop_setting.specs.Elements.{slot_set, given_back}
use Rattle.oref_table.specs.Filling.{slot_from, passed}
use Rattle.object_members.specs.Reads.{read_prop}
use Rattle.object_members.specs.Writes.{one_side_set, write_prop}
use Rattle.object_members.specs.Lists.{on_list}
use Rattle.object_members.specs.Arrays.{on_array}
use Rattle.object_members.specs.ManySides.{on_members}
use Rattle.object_members.specs.Members.{on_class, on_object, on_items}
use Rattle.worked_processes.proofs.Drops.{drops}
use Rattle.worked_processes.proofs.Playing.{playing, plays, at_first, process-plays}
use Rattle.obj_kinds.specs.Values.{same_value}
use Rattle.object_calls.proofs.Lists.{list_out, text_out, plain_out, target_out, plain_item, target_item, same_texts, same_lists}
use Rattle.worked_processes.proofs.Views.{views, items}
use Rattle.obj_kinds.specs.declared.op.Reply.{Reply}
use Rattle.os_meaning.specs.Syntax.{Block}
use Rattle.os_meaning.specs.Samples.{block}
use Rattle.worked_processes.specs.Bank.{IsWorked}
use Rattle.oref_table.specs.declared.slot.Slot.TheVariants.{Target}
use Rattle.oref_table.specs.Memory.{Memory}
use Rattle.object_calls.specs.Banking.{account, key_in, account_row, row}
use Rattle.obj_kinds.specs.declared.op.Reply.TheVariants as reply
use Rattle.object_calls.specs.Saves.{Drawn}
use Rattle.object_members.specs.Seeing.{memories}
use Rattle.worked_processes.specs.Bank.{accounts}
use Rattle.worked_processes.specs.Dangling.{ann_to_2, z_to_2, ann_to_2_row, dangling, keeps_dangling}
use Rattle.worked_processes.proofs.Renamed.{account_of, memory_of, knows, quits, rest, command, var_a}

abbrev to_2 : Bool → List ℕ → ℕ → Memory
to_2 modified owner outside = memory_of (account_of 1 (Some (1 ∷ [])) 2 modified owner [] (Target (Some (2 ∷ []))) outside ∷ []) 1

abbrev is_gone : List ℕ
is_gone = codes "0 Gone 2"

opens : (body : Block) (u : ℕ) (rs : List Reply) (go quit : Rest)
    → plays accounts 10 1000000 body (runs None 1000000 (command 0 dangling) [] go quit) (suc (suc (suc (suc u)))) at_first (reply.Granted ∷ ann_to_2_row ∷ reply.Done ∷ rs)
    ≡ take 4 keeps_dangling.sees ++ plays accounts 10 1000000 body (go var_a) u (knows (to_2 false (codes "Ann") 1) 0 []) rs
unfolding digits is_legal_text whole_of is_number subs.number_in part_in id_in is_legal_node is_legal_sub is_sub_text is_global_name node_text node_cmp key_cmp row_field line_of layout_of data_node marker row_list row_class index_key key_node entry_node entry_list has_legal_entries stale differing child walk joins subscript_of after_of at_node gets sets kills increments orders calls calls_own writes frame edited loosed with_object prop_read is_at_or_below has_several read read_as edits_of load raise deleting delete look lock_keys test_targets kill_entries write save_items save open_object open_text open_id save_object delete_text delete_id next_id member_at method_of with_saved with_loaded with_member read_prop one_side_set slot_set given_back slot_from passed write_prop on_list on_array on_members on_class on_object on_items field.out-Field denote.Hole.Carrier.out
opens body u rs go quit = simp (playing, views, drops) refl

touches : (body : Block) (u : ℕ) (rs : List Reply) (go quit : Rest)
    → plays accounts 10 1000000 body (runs None 1000000 (command 1 dangling) var_a go quit) (suc (suc (suc (suc (suc u))))) (knows (to_2 false (codes "Ann") 1) 0 []) (reply.Granted ∷ reply.Absent ∷ reply.Done ∷ rs)
    ≡ take 6 (drop 4 keeps_dangling.sees) ++ plays accounts 10 1000000 body (go var_a) u (knows (to_2 false (codes "Ann") 1) 0 is_gone) rs
unfolding digits is_legal_text whole_of is_number subs.number_in part_in id_in is_legal_node is_legal_sub is_sub_text is_global_name node_text node_cmp key_cmp row_field line_of layout_of data_node marker row_list row_class index_key key_node entry_node entry_list has_legal_entries stale differing child walk joins subscript_of after_of at_node gets sets kills increments orders calls calls_own writes frame edited loosed with_object prop_read is_at_or_below has_several read read_as edits_of load raise deleting delete look lock_keys test_targets kill_entries write save_items save open_object open_text open_id save_object delete_text delete_id next_id member_at method_of with_saved with_loaded with_member read_prop one_side_set slot_set given_back slot_from passed write_prop on_list on_array on_members on_class on_object on_items field.out-Field denote.Hole.Carrier.out
touches body u rs go quit = simp (playing, views, drops) refl

renamed : (body : Block) (u : ℕ) (rs : List Reply) (go quit : Rest)
    → plays accounts 10 1000000 body (runs None 1000000 (command 2 dangling) var_a go quit) (suc u) (knows (to_2 false (codes "Ann") 1) 0 is_gone) rs
    ≡ plays accounts 10 1000000 body (go var_a) u (knows (to_2 true (codes "Z") 1) 0 is_gone) rs
unfolding digits is_legal_text whole_of is_number subs.number_in part_in id_in is_legal_node is_legal_sub is_sub_text is_global_name node_text node_cmp key_cmp row_field line_of layout_of data_node marker row_list row_class index_key key_node entry_node entry_list has_legal_entries stale differing child walk joins subscript_of after_of at_node gets sets kills increments orders calls calls_own writes frame edited loosed with_object prop_read is_at_or_below has_several read read_as edits_of load raise deleting delete look lock_keys test_targets kill_entries write save_items save open_object open_text open_id save_object delete_text delete_id next_id member_at method_of with_saved with_loaded with_member read_prop one_side_set slot_set given_back slot_from passed write_prop on_list on_array on_members on_class on_object on_items field.out-Field denote.Hole.Carrier.out
renamed body u rs go quit = simp (playing, views, drops) refl

z_written : written (memories accounts) (to_2 true (codes "Z") 2) 1 ≡ 1 ∷ []
unfolding digits is_legal_text whole_of is_number subs.number_in part_in id_in is_legal_node is_legal_sub is_sub_text is_global_name node_text node_cmp key_cmp row_field line_of layout_of data_node marker row_list row_class index_key key_node entry_node entry_list has_legal_entries stale differing child walk joins subscript_of after_of at_node gets sets kills increments orders calls calls_own writes frame edited loosed with_object record_of prop_read root_fits list_fits object_fault is_at_or_below has_several read read_as edits_of load raise deleting delete look lock_keys test_targets kill_entries write save_items save reached written open_object open_text open_id save_object delete_text delete_id next_id member_at method_of with_saved with_loaded with_member is_marked fault_of record_in read_prop one_side_set slot_set given_back slot_from passed write_prop on_list on_array on_members on_class on_object on_items denote.Hole.Carrier.out
z_written = refl

z_fault : fault_of accounts (to_2 true (codes "Z") 2) 1 ≡ None
unfolding digits is_legal_text whole_of is_number subs.number_in part_in id_in is_legal_node is_legal_sub is_sub_text is_global_name node_text node_cmp key_cmp row_field line_of layout_of data_node marker row_list row_class index_key key_node entry_node entry_list has_legal_entries stale differing child walk joins subscript_of after_of at_node gets sets kills increments orders calls calls_own writes frame edited loosed with_object record_of prop_read root_fits list_fits object_fault is_at_or_below has_several read read_as edits_of load raise deleting delete look lock_keys test_targets kill_entries write save_items save reached written open_object open_text open_id save_object delete_text delete_id next_id member_at method_of with_saved with_loaded with_member is_marked fault_of record_in read_prop one_side_set slot_set given_back slot_from passed write_prop on_list on_array on_members on_class on_object on_items denote.Hole.Carrier.out
z_fault = simp (views, items) refl

z_record : (drawn : Drawn) → record_in accounts (to_2 true (codes "Z") 2) drawn 1 ≡ z_to_2
unfolding digits is_legal_text whole_of is_number subs.number_in part_in id_in is_legal_node is_legal_sub is_sub_text is_global_name node_text node_cmp key_cmp row_field line_of layout_of data_node marker row_list row_class index_key key_node entry_node entry_list has_legal_entries stale differing child walk joins subscript_of after_of at_node gets sets kills increments orders calls calls_own writes frame edited loosed with_object record_of prop_read root_fits list_fits object_fault is_at_or_below has_several read read_as edits_of load raise deleting delete look lock_keys test_targets kill_entries write save_items save reached written open_object open_text open_id save_object delete_text delete_id next_id member_at method_of with_saved with_loaded with_member is_marked fault_of record_in read_prop one_side_set slot_set given_back slot_from passed write_prop on_list on_array on_members on_class on_object on_items denote.Hole.Carrier.out
z_record drawn = simp views refl

ruleset z_facts = (z_written, z_fault, z_record)

-- what the save writes: the row, with another owner
ann_rows : row_list accounts (key_in account 1) ann_to_2 ≡ (account_row 1, row ([] ∷ codes "Ann" ∷ [] ∷ codes "2" ∷ [])) ∷ []
unfolding digits is_legal_text whole_of is_number subs.number_in line_of layout_of data_node marker row_list
ann_rows = simp (plain_out, target_out, plain_item, target_item) refl

z_rows : row_list accounts (key_in account 1) z_to_2 ≡ (account_row 1, row ([] ∷ codes "Z" ∷ [] ∷ codes "2" ∷ [])) ∷ []
unfolding digits is_legal_text whole_of is_number subs.number_in line_of layout_of data_node marker row_list
z_rows = simp (plain_out, target_out, plain_item, target_item) refl

z_differs : same_value (row ([] ∷ codes "Ann" ∷ [] ∷ codes "2" ∷ [])) (row ([] ∷ codes "Z" ∷ [] ∷ codes "2" ∷ [])) ≡ false
z_differs = simp (same_lists) (simp (list_out) (simp (same_texts) (simp (text_out) refl)))

z_edits : edits_of accounts (key_in account 1) (Some ann_to_2) (Some z_to_2)
    ≡ record { entry_kills = []; row_kills = []; row_sets = (account_row 1, row ([] ∷ codes "Z" ∷ [] ∷ codes "2" ∷ [])) ∷ []; entry_sets = [] }
unfolding digits is_legal_text whole_of is_number subs.number_in node_cmp index_key key_node entry_node entry_list stale differing edits_of field.out-Field denote.Hole.Carrier.out
z_edits = simp (ann_rows, z_rows) (rw z_differs refl)

z_saved : plays accounts 10 1000000 (block dangling) (rest 1000000 dangling 3 var_a) 999990 (knows (to_2 true (codes "Z") 1) 0 is_gone) (drop 6 keeps_dangling.replies) ≡ drop 10 keeps_dangling.sees
unfolding digits is_legal_text whole_of is_number subs.number_in part_in id_in is_legal_node is_legal_sub is_sub_text is_global_name node_text node_cmp key_cmp row_field line_of layout_of data_node marker row_class index_key key_node entry_node entry_list has_legal_entries stale differing child walk joins subscript_of after_of at_node gets sets kills increments orders calls calls_own writes frame edited loosed with_object prop_read is_at_or_below has_several read read_as load raise deleting delete look lock_keys test_targets kill_entries write save_items save open_object open_text open_id save_object delete_text delete_id next_id member_at method_of with_saved with_loaded with_member read_prop one_side_set slot_set given_back slot_from passed write_prop on_list on_array on_members on_class on_object on_items field.out-Field denote.Hole.Carrier.out
z_saved = simp (playing, views, z_facts) (rw z_edits (simp (playing, views, drops) refl))

pub keeps_dangling_worked : IsWorked keeps_dangling
unfolding frame
keeps_dangling_worked = process-plays accounts 10 1000000 (block dangling) keeps_dangling.replies
    ∙ opens (block dangling) 999996 (drop 3 keeps_dangling.replies) (rest 1000000 dangling 1) quits
    ∙ ap (λ l. take 4 keeps_dangling.sees ++ l)
    (touches (block dangling) 999991 (drop 6 keeps_dangling.replies) (rest 1000000 dangling 2) quits
    ∙ ap (λ l. take 6 (drop 4 keeps_dangling.sees) ++ l) (renamed (block dangling) 999990 (drop 6 keeps_dangling.replies) (rest 1000000 dangling 3) quits ∙ z_saved))
