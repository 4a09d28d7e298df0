-- A clerk goes from one branch to another, step by step.
use Rattle.std.proofs.Common.{pos, ◌≡◌, ℕ, suc, Bool, ap, ◌++◌, refl, ◌∙◌, List, [], ◌∷◌, Some, None, take, drop, true, false, codes}
use Rattle.std.specs.Fmt.{digits}
use Rattle.obj_kinds.specs.Subscript as subs
use Rattle.obj_kinds.specs.Subscript.{whole_of, is_number}
use Rattle.obj_kinds.specs.IdReading.{part_in, id_in}
use Rattle.obj_kinds.specs.NodeText.{node_text}
use Rattle.obj_kinds.specs.Order.{node_cmp}
use Rattle.obj_kinds.specs.Limits.{is_legal_text, is_legal_node, is_legal_sub, is_sub_text, is_global_name}
use Rattle.schema_kinds.specs.declared.record.Field as field
use Rattle.schema_kinds.specs.Worlds.{key_cmp}
use Rattle.record_layout.specs.Items.{row_field}
use Rattle.record_layout.specs.Layout.{line_of, layout_of}
use Rattle.record_layout.specs.Rows.{data_node, marker, row_list}
use Rattle.storage_map.specs.Markers.{row_class}
use Rattle.storage_map.specs.Entries.{index_key, key_node, entry_node, entry_list, has_legal_entries}
use Rattle.storage_map.specs.Changes.{stale, differing}
use Rattle.store_calls.specs.Walks.{child, walk}
use Rattle.os_meaning.specs.Values.{joins, subscript_of, after_of}
use Rattle.os_meaning.specs.Frames.{Vars, Rest, at_node, gets, sets, kills, increments, orders, calls, calls_own, writes}
use Rattle.os_meaning.specs.Meaning.{frame, runs}
use Rattle.oref_table.specs.Memory.{edited, loosed, with_object}
use Rattle.obj_shape.specs.Records.{record_of}
use Rattle.obj_props.specs.Properties.{prop_read}
use Rattle.obj_validity.specs.Faults.{root_fits, list_fits, object_fault}
use Rattle.object_calls.specs.Extents.{is_at_or_below, has_several}
use Rattle.object_calls.specs.Reading.{read, read_as}
use Rattle.object_calls.specs.Edits.{edits_of}
use Rattle.object_calls.specs.Loads.{load, raise}
use Rattle.object_calls.specs.Deletes.{deleting, delete}
use Rattle.object_calls.specs.Saves.{look, lock_keys, test_targets, kill_entries, write, save_items, save}
use Rattle.object_calls.specs.Reach.{reached}
use Rattle.object_calls.specs.Memories.{written}
use Rattle.object_calls.specs.ObjectCalls.{open_object, open_text, open_id, save_object, delete_text, delete_id, next_id, member_at}
use Rattle.host_meaning.specs.Methods.{method_of}
use Rattle.object_members.specs.Seeing.{with_saved, with_loaded, with_member, is_marked, fault_of, record_in}
use Rattle.prop_setting.specs.Elements.{slot_set, given_back}
use Rattle.oref_table.specs.Filling.{slot_from, passed}
use Rattle.object_members.specs.Reads.{read_prop}
use Rattle.object_members.specs.Writes.{one_side_set, write_prop}
use Rattle.object_members.specs.Lists.{on_list}
use Rattle.object_members.specs.Arrays.{on_array}
use Rattle.object_members.specs.ManySides.{on_members}
use Rattle.object_members.specs.Members.{on_class, on_object, on_items}
use Rattle.worked_processes.proofs.Drops.{drops}
use Rattle.worked_processes.proofs.Playing.{playing, plays, at_first, process-plays}
use Rattle.obj_kinds.specs.Values.{same_value}
use Rattle.object_calls.proofs.Lists.{list_out, text_out, plain_out, target_out, plain_item, target_item, same_texts, same_lists}
use Rattle.worked_processes.proofs.Views.{views, items}
use Rattle.obj_kinds.specs.declared.op.Reply.{Reply}
use Rattle.os_meaning.specs.Syntax.{Block}
use Rattle.os_meaning.specs.Samples.{block}
use Rattle.worked_processes.specs.Bank.{IsWorked}
use Rattle.obj_kinds.specs.declared.value.Value.TheVariants as value
use Rattle.oref_table.specs.declared.slot.Slot.TheVariants.{Plain, Target}
use Rattle.oref_table.specs.Memory.{Object, Memory}
use Rattle.object_calls.specs.Banking.{key_in, row}
use Rattle.object_calls.specs.Shown.{Asked}
use Rattle.obj_kinds.specs.declared.op.Op.TheVariants as ops
use Rattle.obj_kinds.specs.declared.op.Reply.TheVariants as reply
use Rattle.object_members.specs.Seeing.{memories}
use Rattle.worked_processes.specs.Sides.{moving, moves_clerk, cy}
use Rattle.worked_processes.specs.Bank.{branches}
use Rattle.object_calls.specs.Banking.{branch, clerk, clerk_row, member_entry, nothing}
use Rattle.oref_table.specs.declared.oref.Oref.{Oref}
use Rattle.oref_table.specs.declared.slot.Slot.TheVariants.{To, Members}
use Rattle.worked_processes.proofs.Renamed.{memory_of, knows, is, quits, rest, command}

abbrev clerk_of : Bool → ℕ → Object
clerk_of modified outside = record { number = 1; class = clerk; extent = Some clerk; id = Some (1 ∷ []); level = 2; modified = modified; slots = Plain (value.Str (codes "Cy")) ∷ To (record { 0 = 2 }) ∷ []; outside = outside }

abbrev south : Object
south = record { number = 2; class = branch; extent = Some branch; id = Some (2 ∷ []); level = 2; modified = false; slots = Plain (value.Str (codes "South")) ∷ Members (record { 0 = 1 } ∷ []) ∷ []; outside = 0 }

abbrev both : Bool → ℕ → Memory
both modified outside = memory_of (clerk_of modified outside ∷ south ∷ []) 2

abbrev var_c : Vars
var_c = is (codes "c") 1 clerk ∷ []

starts : (body : Block) (u : ℕ) (rs : List Reply) (go quit : Rest)
    → plays branches 10 1000000 body (runs None 1000000 (command 0 moving) [] go quit) (suc (suc u)) at_first (reply.Number (pos 1) ∷ rs)
    ≡ Asked ops.Begin ∷ plays branches 10 1000000 body (go []) u (knows (memory_of [] 0) 1 []) rs
unfolding digits is_legal_text whole_of is_number subs.number_in part_in id_in is_legal_node is_legal_sub is_sub_text is_global_name node_text node_cmp key_cmp row_field line_of layout_of data_node marker row_list row_class index_key key_node entry_node entry_list has_legal_entries stale differing child walk joins subscript_of after_of at_node gets sets kills increments orders calls calls_own writes frame edited loosed with_object prop_read is_at_or_below has_several read read_as edits_of load raise deleting delete look lock_keys test_targets kill_entries write save_items save open_object open_text open_id save_object delete_text delete_id next_id member_at method_of with_saved with_loaded with_member read_prop one_side_set slot_set given_back slot_from passed write_prop on_list on_array on_members on_class on_object on_items field.out-Field denote.Hole.Carrier.out
starts body u rs go quit = simp (playing, views, drops) refl

abbrev clerk_to_1 : ℕ → Object
clerk_to_1 outside = record { number = 1; class = clerk; extent = Some clerk; id = Some (1 ∷ []); level = 2; modified = false; slots = Plain (value.Str (codes "Cy")) ∷ Target (Some (1 ∷ [])) ∷ []; outside = outside }

abbrev south_with : List Oref → ℕ → Object
south_with members outside = record { number = 2; class = branch; extent = Some branch; id = Some (2 ∷ []); level = 2; modified = false; slots = Plain (value.Str (codes "South")) ∷ Members members ∷ []; outside = outside }

side_1_2 : one_side_set branches (memory_of (clerk_to_1 1 ∷ south_with [] 2 ∷ []) 2) (clerk_to_1 1) 1 (codes "Clerks") (To (record { 0 = 2 })) (2 ∷ [])
    ≡ memory_of (clerk_of true 1 ∷ south_with (record { 0 = 1 } ∷ []) 1 ∷ []) 2
unfolding one_side_set edited loosed
side_1_2 = simp (views, items, drops) refl

side_1_3 : one_side_set branches (memory_of (clerk_to_1 1 ∷ south_with [] 3 ∷ []) 2) (clerk_to_1 1) 1 (codes "Clerks") (To (record { 0 = 2 })) (2 ∷ [])
    ≡ memory_of (clerk_of true 1 ∷ south_with (record { 0 = 1 } ∷ []) 2 ∷ []) 2
unfolding one_side_set edited loosed
side_1_3 = simp (views, items, drops) refl

side_2_2 : one_side_set branches (memory_of (clerk_to_1 2 ∷ south_with [] 2 ∷ []) 2) (clerk_to_1 2) 1 (codes "Clerks") (To (record { 0 = 2 })) (2 ∷ [])
    ≡ memory_of (clerk_of true 2 ∷ south_with (record { 0 = 1 } ∷ []) 1 ∷ []) 2
unfolding one_side_set edited loosed
side_2_2 = simp (views, items, drops) refl

side_2_3 : one_side_set branches (memory_of (clerk_to_1 2 ∷ south_with [] 3 ∷ []) 2) (clerk_to_1 2) 1 (codes "Clerks") (To (record { 0 = 2 })) (2 ∷ [])
    ≡ memory_of (clerk_of true 2 ∷ south_with (record { 0 = 1 } ∷ []) 2 ∷ []) 2
unfolding one_side_set edited loosed
side_2_3 = simp (views, items, drops) refl

ruleset side_facts = (side_1_2, side_1_3, side_2_2, side_2_3)

moves : (body : Block) (u : ℕ) (rs : List Reply) (go quit : Rest)
    → plays branches 10 1000000 body (runs None 1000000 (command 1 moving) [] go quit) (suc (suc (suc (suc (suc (suc (suc (suc u)))))))) (knows (memory_of [] 0) 1 [])
    (reply.Granted ∷ reply.Found (row ([] ∷ codes "Cy" ∷ codes "1" ∷ [])) ∷ reply.Done ∷ reply.Granted ∷ reply.Found (row ([] ∷ codes "South" ∷ [])) ∷ reply.Done ∷ rs)
    ≡ take 8 (drop 1 moves_clerk.sees) ++ plays branches 10 1000000 body (go var_c) u (knows (both true 1) 1 []) rs
unfolding digits is_legal_text whole_of is_number subs.number_in part_in id_in is_legal_node is_legal_sub is_sub_text is_global_name node_text node_cmp key_cmp row_field line_of layout_of data_node marker row_list row_class index_key key_node entry_node entry_list has_legal_entries stale differing child walk joins subscript_of after_of at_node gets sets kills increments orders calls calls_own writes frame edited loosed with_object prop_read is_at_or_below has_several read read_as edits_of load raise deleting delete look lock_keys test_targets kill_entries write save_items save open_object open_text open_id save_object delete_text delete_id next_id member_at method_of with_saved with_loaded with_member read_prop slot_set given_back slot_from passed write_prop on_list on_array on_members on_class on_object on_items field.out-Field denote.Hole.Carrier.out
moves body u rs go quit = simp (playing, views, drops, side_facts) refl

clerk_written : written (memories branches) (both true 2) 1 ≡ 1 ∷ []
unfolding digits is_legal_text whole_of is_number subs.number_in part_in id_in is_legal_node is_legal_sub is_sub_text is_global_name node_text node_cmp key_cmp row_field line_of layout_of data_node marker row_list row_class index_key key_node entry_node entry_list has_legal_entries stale differing child walk joins subscript_of after_of at_node gets sets kills increments orders calls calls_own writes frame edited loosed with_object record_of prop_read root_fits list_fits object_fault is_at_or_below has_several read read_as edits_of load raise deleting delete look lock_keys test_targets kill_entries write save_items save reached written open_object open_text open_id save_object delete_text delete_id next_id member_at method_of with_saved with_loaded with_member is_marked fault_of record_in read_prop one_side_set slot_set given_back slot_from passed write_prop on_list on_array on_members on_class on_object on_items denote.Hole.Carrier.out
clerk_written = simp (views, items) refl

clerk_fault : fault_of branches (both true 2) 1 ≡ None
unfolding digits is_legal_text whole_of is_number subs.number_in part_in id_in is_legal_node is_legal_sub is_sub_text is_global_name node_text node_cmp key_cmp row_field line_of layout_of data_node marker row_list row_class index_key key_node entry_node entry_list has_legal_entries stale differing child walk joins subscript_of after_of at_node gets sets kills increments orders calls calls_own writes frame edited loosed with_object record_of prop_read root_fits list_fits object_fault is_at_or_below has_several read read_as edits_of load raise deleting delete look lock_keys test_targets kill_entries write save_items save reached written open_object open_text open_id save_object delete_text delete_id next_id member_at method_of with_saved with_loaded with_member is_marked fault_of record_in read_prop one_side_set slot_set given_back slot_from passed write_prop on_list on_array on_members on_class on_object on_items denote.Hole.Carrier.out
clerk_fault = simp (views, items) refl

clerk_there : record_in branches (both true 2) [] 1 ≡ cy 2
unfolding digits is_legal_text whole_of is_number subs.number_in part_in id_in is_legal_node is_legal_sub is_sub_text is_global_name node_text node_cmp key_cmp row_field line_of layout_of data_node marker row_list row_class index_key key_node entry_node entry_list has_legal_entries stale differing child walk joins subscript_of after_of at_node gets sets kills increments orders calls calls_own writes frame edited loosed with_object record_of prop_read root_fits list_fits object_fault is_at_or_below has_several read read_as edits_of load raise deleting delete look lock_keys test_targets kill_entries write save_items save reached written open_object open_text open_id save_object delete_text delete_id next_id member_at method_of with_saved with_loaded with_member is_marked fault_of record_in read_prop one_side_set slot_set given_back slot_from passed write_prop on_list on_array on_members on_class on_object on_items denote.Hole.Carrier.out
clerk_there = simp (views, items) refl

ruleset clerk_facts = (clerk_written, clerk_fault, clerk_there)

-- what the save writes: the row with another target, and the entry of the one side
old_rows : row_list branches (key_in clerk 1) (cy 1) ≡ (clerk_row 1, row ([] ∷ codes "Cy" ∷ codes "1" ∷ [])) ∷ []
unfolding digits is_legal_text whole_of is_number subs.number_in line_of layout_of data_node marker row_list
old_rows = simp (plain_out, target_out, plain_item, target_item) refl

new_rows : row_list branches (key_in clerk 1) (cy 2) ≡ (clerk_row 1, row ([] ∷ codes "Cy" ∷ codes "2" ∷ [])) ∷ []
unfolding digits is_legal_text whole_of is_number subs.number_in line_of layout_of data_node marker row_list
new_rows = simp (plain_out, target_out, plain_item, target_item) refl

rows_differ : same_value (row ([] ∷ codes "Cy" ∷ codes "1" ∷ [])) (row ([] ∷ codes "Cy" ∷ codes "2" ∷ [])) ≡ false
rows_differ = simp (same_lists) (simp (list_out) (simp (same_texts) (simp (text_out) refl)))

clerk_edits : edits_of branches (key_in clerk 1) (Some (cy 1)) (Some (cy 2))
    ≡ record { entry_kills = member_entry 1 1 ∷ []; row_kills = []; row_sets = (clerk_row 1, row ([] ∷ codes "Cy" ∷ codes "2" ∷ [])) ∷ []; entry_sets = (member_entry 2 1, nothing) ∷ [] }
unfolding digits is_legal_text whole_of is_number subs.number_in node_cmp index_key key_node entry_node entry_list stale differing edits_of field.out-Field denote.Hole.Carrier.out
clerk_edits = simp (old_rows, new_rows) (rw rows_differ refl)

saved : (u : ℕ) (rs : List Reply) (go quit : Rest) (body : Block)
    → plays branches 10 1000000 body (runs None 1000000 (command 2 moving) var_c go quit) (suc (suc (suc (suc (suc (suc (suc (suc (suc (suc (suc (suc (suc u))))))))))))) (knows (both true 1) 1 [])
    (reply.Number (pos 2) ∷ reply.Granted ∷ reply.Found (row ([] ∷ codes "Cy" ∷ codes "1" ∷ [])) ∷ reply.Granted ∷ reply.Granted ∷ reply.Granted ∷ reply.State 1
    ∷ reply.Done ∷ reply.Done ∷ reply.Done ∷ reply.Number (pos 1) ∷ rs)
    ≡ take 13 (drop 9 moves_clerk.sees) ++ plays branches 10 1000000 body (go var_c) u (knows (both false 1) 1 []) rs
unfolding digits is_legal_text whole_of is_number subs.number_in part_in id_in is_legal_node is_legal_sub is_sub_text is_global_name node_text node_cmp key_cmp row_field line_of layout_of data_node marker row_class index_key key_node entry_node entry_list has_legal_entries stale differing child walk joins subscript_of after_of at_node gets sets kills increments orders calls calls_own writes frame edited loosed with_object prop_read is_at_or_below has_several read read_as load raise deleting delete look lock_keys test_targets kill_entries write save_items save open_object open_text open_id save_object delete_text delete_id next_id member_at method_of with_saved with_loaded with_member read_prop one_side_set slot_set given_back slot_from passed write_prop on_list on_array on_members on_class on_object on_items field.out-Field denote.Hole.Carrier.out
saved u rs go quit body = simp (playing, views, clerk_facts) (rw clerk_edits (simp (playing, views, drops) refl))

commits : plays branches 10 1000000 (block moving) (rest 1000000 moving 3 var_c) 999977 (knows (both false 1) 1 []) (reply.Number (pos 0) ∷ []) ≡ drop 22 moves_clerk.sees
unfolding digits is_legal_text whole_of is_number subs.number_in part_in id_in is_legal_node is_legal_sub is_sub_text is_global_name node_text node_cmp key_cmp row_field line_of layout_of data_node marker row_list row_class index_key key_node entry_node entry_list has_legal_entries stale differing child walk joins subscript_of after_of at_node gets sets kills increments orders calls calls_own writes frame edited loosed with_object prop_read is_at_or_below has_several read read_as edits_of load raise deleting delete look lock_keys test_targets kill_entries write save_items save open_object open_text open_id save_object delete_text delete_id next_id member_at method_of with_saved with_loaded with_member read_prop one_side_set slot_set given_back slot_from passed write_prop on_list on_array on_members on_class on_object on_items field.out-Field denote.Hole.Carrier.out
commits = simp (playing, views, drops) refl

pub moves_clerk_worked : IsWorked moves_clerk
unfolding frame
moves_clerk_worked =
    process-plays branches 10 1000000 (block moving) moves_clerk.replies
    ∙ starts (block moving) 999998 (drop 1 moves_clerk.replies) (rest 1000000 moving 1) quits
    ∙ ap (λ l. Asked ops.Begin ∷ l)
    (moves (block moving) 999990 (drop 7 moves_clerk.replies) (rest 1000000 moving 2) quits
    ∙ ap (λ l. take 8 (drop 1 moves_clerk.sees) ++ l)
    (saved 999977 (drop 18 moves_clerk.replies) (rest 1000000 moving 3) quits (block moving)
    ∙ ap (λ l. take 13 (drop 9 moves_clerk.sees) ++ l) commits))
