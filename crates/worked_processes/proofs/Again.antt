-- A save that is rolled back, and the object saved again, step by step.
use Rattle.std.proofs.Common.{pos, ◌≡◌, ℕ, suc, Bool, Option, ap, ◌++◌, refl, ◌∙◌, List, [], ◌∷◌, Some, None, take, drop, true, false, codes}
use Rattle.std.specs.Fmt.{digits}
use Rattle.obj_kinds.specs.Subscript as subs
use Rattle.obj_kinds.specs.Subscript.{whole_of, is_number}
use Rattle.obj_kinds.specs.IdReading.{part_in, id_in}
use Rattle.obj_kinds.specs.NodeText.{node_text}
use Rattle.obj_kinds.specs.Order.{node_cmp}
use Rattle.obj_kinds.specs.Limits.{is_legal_text, is_legal_node, is_legal_sub, is_sub_text, is_global_name}
use Rattle.schema_kinds.specs.declared.record.Field as field
use Rattle.schema_kinds.specs.Worlds.{key_cmp}
use Rattle.record_layout.specs.Items.{row_field}
use Rattle.record_layout.specs.Layout.{line_of, layout_of}
use Rattle.record_layout.specs.Rows.{data_node, marker, row_list}
use Rattle.storage_map.specs.Markers.{row_class}
use Rattle.storage_map.specs.Entries.{index_key, key_node, entry_node, entry_list, has_legal_entries}
use Rattle.storage_map.specs.Changes.{stale, differing}
use Rattle.store_calls.specs.Walks.{child, walk}
use Rattle.os_meaning.specs.Values.{joins, subscript_of, after_of}
use Rattle.os_meaning.specs.Frames.{Rest, at_node, gets, sets, kills, increments, orders, calls, calls_own, writes}
use Rattle.os_meaning.specs.Meaning.{frame, runs}
use Rattle.oref_table.specs.Memory.{edited, loosed, with_object}
use Rattle.obj_shape.specs.Records.{record_of}
use Rattle.obj_props.specs.Properties.{prop_read}
use Rattle.obj_validity.specs.Faults.{root_fits, list_fits, object_fault}
use Rattle.object_calls.specs.Extents.{is_at_or_below, has_several}
use Rattle.object_calls.specs.Reading.{read, read_as}
use Rattle.object_calls.specs.Edits.{edits_of}
use Rattle.object_calls.specs.Loads.{load, raise}
use Rattle.object_calls.specs.Deletes.{deleting, delete}
use Rattle.object_calls.specs.Saves.{look, lock_keys, test_targets, kill_entries, write, save_items, save}
use Rattle.object_calls.specs.Reach.{reached}
use Rattle.object_calls.specs.Memories.{written}
use Rattle.object_calls.specs.ObjectCalls.{open_object, open_text, open_id, save_object, delete_text, delete_id, next_id, member_at}
use Rattle.host_meaning.specs.Methods.{method_of}
use Rattle.object_members.specs.Seeing.{with_saved, with_loaded, with_member, is_marked, fault_of, record_in}
use Rattle.prop_setting.specs.Elements.{slot_set, given_back}
use Rattle.oref_table.specs.Filling.{slot_from, passed}
use Rattle.object_members.specs.Reads.{read_prop}
use Rattle.object_members.specs.Writes.{one_side_set, write_prop}
use Rattle.object_members.specs.Lists.{on_list}
use Rattle.object_members.specs.Arrays.{on_array}
use Rattle.object_members.specs.ManySides.{on_members}
use Rattle.object_members.specs.Members.{on_class, on_object, on_items}
use Rattle.worked_processes.proofs.Drops.{drops}
use Rattle.worked_processes.proofs.Playing.{playing, plays, at_first, process-plays}
use Rattle.worked_processes.proofs.Views.{views, items}
use Rattle.obj_kinds.specs.declared.op.Reply.{Reply}
use Rattle.os_meaning.specs.Syntax.{Block}
use Rattle.os_meaning.specs.Samples.{block}
use Rattle.worked_processes.specs.Bank.{IsWorked}
use Rattle.oref_table.specs.declared.slot.Slot.TheVariants.{Target}
use Rattle.oref_table.specs.Memory.{Memory}
use Rattle.object_calls.specs.Shown.{Asked}
use Rattle.obj_kinds.specs.declared.op.Op.TheVariants as ops
use Rattle.obj_kinds.specs.declared.op.Reply.TheVariants as reply
use Rattle.object_calls.specs.Saves.{Drawn}
use Rattle.object_members.specs.Seeing.{memories}
use Rattle.worked_processes.specs.Bank.{accounts}
use Rattle.worked_processes.specs.Again.{owned, again, saves_again}
use Rattle.worked_processes.proofs.Renamed.{account_of, memory_of, knows, quits, rest, command, var_a}

abbrev one_again : Option (List ℕ) → Bool → List ℕ → ℕ → Memory
one_again id modified owner outside = memory_of (account_of 1 id 2 modified owner [] (Target None) outside ∷ []) 1

abbrev first_id : Option (List ℕ)
first_id = Some (1 ∷ [])

module _ (tries fuel : ℕ) (body : Block) (u : ℕ) (rs : List Reply) (go quit : Rest) where
  makes : plays accounts tries fuel body (runs None fuel (command 0 again) [] go quit) (suc (suc u)) at_first rs ≡ plays accounts tries fuel body (go var_a) u (knows (one_again None true (codes "A") 1) 0 []) rs
  unfolding digits is_legal_text whole_of is_number subs.number_in part_in id_in is_legal_node is_legal_sub is_sub_text is_global_name node_text node_cmp key_cmp row_field line_of layout_of data_node marker row_list row_class index_key key_node entry_node entry_list has_legal_entries stale differing child walk joins subscript_of after_of at_node gets sets kills increments orders calls calls_own writes frame edited loosed with_object prop_read is_at_or_below has_several read read_as edits_of load raise deleting delete look lock_keys test_targets kill_entries write save_items save open_object open_text open_id save_object delete_text delete_id next_id member_at method_of with_saved with_loaded with_member read_prop one_side_set slot_set given_back slot_from passed write_prop on_list on_array on_members on_class on_object on_items field.out-Field denote.Hole.Carrier.out
  makes = simp (playing, views, drops) refl

  starts : plays accounts tries fuel body (runs None fuel (command 1 again) var_a go quit) (suc (suc u)) (knows (one_again None true (codes "A") 1) 0 []) (reply.Number (pos 1) ∷ rs)
      ≡ Asked ops.Begin ∷ plays accounts tries fuel body (go var_a) u (knows (one_again None true (codes "A") 1) 1 []) rs
  unfolding digits is_legal_text whole_of is_number subs.number_in part_in id_in is_legal_node is_legal_sub is_sub_text is_global_name node_text node_cmp key_cmp row_field line_of layout_of data_node marker row_list row_class index_key key_node entry_node entry_list has_legal_entries stale differing child walk joins subscript_of after_of at_node gets sets kills increments orders calls calls_own writes frame edited loosed with_object prop_read is_at_or_below has_several read read_as edits_of load raise deleting delete look lock_keys test_targets kill_entries write save_items save open_object open_text open_id save_object delete_text delete_id next_id member_at method_of with_saved with_loaded with_member read_prop one_side_set slot_set given_back slot_from passed write_prop on_list on_array on_members on_class on_object on_items field.out-Field denote.Hole.Carrier.out
  starts = simp (playing, views, drops) refl

  undoes : plays accounts tries fuel body (runs None fuel (command 3 again) var_a go quit) (suc (suc u)) (knows (one_again first_id false (codes "A") 1) 1 []) (reply.Done ∷ rs)
      ≡ Asked ops.RollbackAll ∷ plays accounts tries fuel body (go var_a) u (knows (one_again first_id false (codes "A") 1) 0 []) rs
  unfolding digits is_legal_text whole_of is_number subs.number_in part_in id_in is_legal_node is_legal_sub is_sub_text is_global_name node_text node_cmp key_cmp row_field line_of layout_of data_node marker row_list row_class index_key key_node entry_node entry_list has_legal_entries stale differing child walk joins subscript_of after_of at_node gets sets kills increments orders calls calls_own writes frame edited loosed with_object prop_read is_at_or_below has_several read read_as edits_of load raise deleting delete look lock_keys test_targets kill_entries write save_items save open_object open_text open_id save_object delete_text delete_id next_id member_at method_of with_saved with_loaded with_member read_prop one_side_set slot_set given_back slot_from passed write_prop on_list on_array on_members on_class on_object on_items field.out-Field denote.Hole.Carrier.out
  undoes = simp (playing, views, drops) refl

  renames_it : plays accounts tries fuel body (runs None fuel (command 4 again) var_a go quit) (suc u) (knows (one_again first_id false (codes "A") 1) 0 []) rs ≡ plays accounts tries fuel body (go var_a) u (knows (one_again first_id true (codes "B") 1) 0 []) rs
  unfolding digits is_legal_text whole_of is_number subs.number_in part_in id_in is_legal_node is_legal_sub is_sub_text is_global_name node_text node_cmp key_cmp row_field line_of layout_of data_node marker row_list row_class index_key key_node entry_node entry_list has_legal_entries stale differing child walk joins subscript_of after_of at_node gets sets kills increments orders calls calls_own writes frame edited loosed with_object prop_read is_at_or_below has_several read read_as edits_of load raise deleting delete look lock_keys test_targets kill_entries write save_items save open_object open_text open_id save_object delete_text delete_id next_id member_at method_of with_saved with_loaded with_member read_prop one_side_set slot_set given_back slot_from passed write_prop on_list on_array on_members on_class on_object on_items field.out-Field denote.Hole.Carrier.out
  renames_it = simp (playing, views, drops) refl

first_written : written (memories accounts) (one_again None true (codes "A") 2) 1 ≡ 1 ∷ []
unfolding digits is_legal_text whole_of is_number subs.number_in part_in id_in is_legal_node is_legal_sub is_sub_text is_global_name node_text node_cmp key_cmp row_field line_of layout_of data_node marker row_list row_class index_key key_node entry_node entry_list has_legal_entries stale differing child walk joins subscript_of after_of at_node gets sets kills increments orders calls calls_own writes frame edited loosed with_object record_of prop_read root_fits list_fits object_fault is_at_or_below has_several read read_as edits_of load raise deleting delete look lock_keys test_targets kill_entries write save_items save reached written open_object open_text open_id save_object delete_text delete_id next_id member_at method_of with_saved with_loaded with_member is_marked fault_of record_in read_prop one_side_set slot_set given_back slot_from passed write_prop on_list on_array on_members on_class on_object on_items denote.Hole.Carrier.out
first_written = refl

first_fault : fault_of accounts (one_again None true (codes "A") 2) 1 ≡ None
unfolding digits is_legal_text whole_of is_number subs.number_in part_in id_in is_legal_node is_legal_sub is_sub_text is_global_name node_text node_cmp key_cmp row_field line_of layout_of data_node marker row_list row_class index_key key_node entry_node entry_list has_legal_entries stale differing child walk joins subscript_of after_of at_node gets sets kills increments orders calls calls_own writes frame edited loosed with_object record_of prop_read root_fits list_fits object_fault is_at_or_below has_several read read_as edits_of load raise deleting delete look lock_keys test_targets kill_entries write save_items save reached written open_object open_text open_id save_object delete_text delete_id next_id member_at method_of with_saved with_loaded with_member is_marked fault_of record_in read_prop one_side_set slot_set given_back slot_from passed write_prop on_list on_array on_members on_class on_object on_items denote.Hole.Carrier.out
first_fault = simp (views, items) refl

first_record : (drawn : Drawn) → record_in accounts (one_again None true (codes "A") 2) drawn 1 ≡ owned (codes "A")
unfolding digits is_legal_text whole_of is_number subs.number_in part_in id_in is_legal_node is_legal_sub is_sub_text is_global_name node_text node_cmp key_cmp row_field line_of layout_of data_node marker row_list row_class index_key key_node entry_node entry_list has_legal_entries stale differing child walk joins subscript_of after_of at_node gets sets kills increments orders calls calls_own writes frame edited loosed with_object record_of prop_read root_fits list_fits object_fault is_at_or_below has_several read read_as edits_of load raise deleting delete look lock_keys test_targets kill_entries write save_items save reached written open_object open_text open_id save_object delete_text delete_id next_id member_at method_of with_saved with_loaded with_member is_marked fault_of record_in read_prop one_side_set slot_set given_back slot_from passed write_prop on_list on_array on_members on_class on_object on_items denote.Hole.Carrier.out
first_record drawn = simp views refl

second_written : written (memories accounts) (one_again first_id true (codes "B") 2) 1 ≡ 1 ∷ []
unfolding digits is_legal_text whole_of is_number subs.number_in part_in id_in is_legal_node is_legal_sub is_sub_text is_global_name node_text node_cmp key_cmp row_field line_of layout_of data_node marker row_list row_class index_key key_node entry_node entry_list has_legal_entries stale differing child walk joins subscript_of after_of at_node gets sets kills increments orders calls calls_own writes frame edited loosed with_object record_of prop_read root_fits list_fits object_fault is_at_or_below has_several read read_as edits_of load raise deleting delete look lock_keys test_targets kill_entries write save_items save reached written open_object open_text open_id save_object delete_text delete_id next_id member_at method_of with_saved with_loaded with_member is_marked fault_of record_in read_prop one_side_set slot_set given_back slot_from passed write_prop on_list on_array on_members on_class on_object on_items denote.Hole.Carrier.out
second_written = refl

second_fault : fault_of accounts (one_again first_id true (codes "B") 2) 1 ≡ None
unfolding digits is_legal_text whole_of is_number subs.number_in part_in id_in is_legal_node is_legal_sub is_sub_text is_global_name node_text node_cmp key_cmp row_field line_of layout_of data_node marker row_list row_class index_key key_node entry_node entry_list has_legal_entries stale differing child walk joins subscript_of after_of at_node gets sets kills increments orders calls calls_own writes frame edited loosed with_object record_of prop_read root_fits list_fits object_fault is_at_or_below has_several read read_as edits_of load raise deleting delete look lock_keys test_targets kill_entries write save_items save reached written open_object open_text open_id save_object delete_text delete_id next_id member_at method_of with_saved with_loaded with_member is_marked fault_of record_in read_prop one_side_set slot_set given_back slot_from passed write_prop on_list on_array on_members on_class on_object on_items denote.Hole.Carrier.out
second_fault = simp (views, items) refl

second_record : (drawn : Drawn) → record_in accounts (one_again first_id true (codes "B") 2) drawn 1 ≡ owned (codes "B")
unfolding digits is_legal_text whole_of is_number subs.number_in part_in id_in is_legal_node is_legal_sub is_sub_text is_global_name node_text node_cmp key_cmp row_field line_of layout_of data_node marker row_list row_class index_key key_node entry_node entry_list has_legal_entries stale differing child walk joins subscript_of after_of at_node gets sets kills increments orders calls calls_own writes frame edited loosed with_object record_of prop_read root_fits list_fits object_fault is_at_or_below has_several read read_as edits_of load raise deleting delete look lock_keys test_targets kill_entries write save_items save reached written open_object open_text open_id save_object delete_text delete_id next_id member_at method_of with_saved with_loaded with_member is_marked fault_of record_in read_prop one_side_set slot_set given_back slot_from passed write_prop on_list on_array on_members on_class on_object on_items denote.Hole.Carrier.out
second_record drawn = simp views refl

ruleset first_facts = (first_written, first_fault, first_record)

ruleset second_facts = (second_written, second_fault, second_record)

saves_it : (u : ℕ) (rs : List Reply) (go quit : Rest) (body : Block)
    → plays accounts 10 1000000 body (runs None 1000000 (command 2 again) var_a go quit) (suc (suc (suc (suc (suc (suc (suc (suc u)))))))) (knows (one_again None true (codes "A") 1) 1 []) (reply.Number (pos 2) ∷ reply.Number (pos 1) ∷ reply.Granted ∷ reply.Absent ∷ reply.Done ∷ reply.Number (pos 1) ∷ rs)
    ≡ take 8 (drop 1 saves_again.sees) ++ plays accounts 10 1000000 body (go var_a) u (knows (one_again first_id false (codes "A") 1) 1 []) rs
unfolding digits is_legal_text whole_of is_number subs.number_in part_in id_in is_legal_node is_legal_sub is_sub_text is_global_name node_text node_cmp key_cmp row_field line_of layout_of data_node marker row_list row_class index_key key_node entry_node entry_list has_legal_entries stale differing child walk joins subscript_of after_of at_node gets sets kills increments orders calls calls_own writes frame edited loosed with_object prop_read is_at_or_below has_several read read_as edits_of load raise deleting delete look lock_keys test_targets kill_entries write save_items save open_object open_text open_id save_object delete_text delete_id next_id member_at method_of with_saved with_loaded with_member read_prop one_side_set slot_set given_back slot_from passed write_prop on_list on_array on_members on_class on_object on_items field.out-Field denote.Hole.Carrier.out
saves_it u rs go quit body = simp (playing, views, items, drops, first_facts) refl

gone : plays accounts 10 1000000 (block again) (rest 1000000 again 5 var_a) 999985 (knows (one_again first_id true (codes "B") 1) 0 []) (drop 8 saves_again.replies) ≡ drop 10 saves_again.sees
unfolding digits is_legal_text whole_of is_number subs.number_in part_in id_in is_legal_node is_legal_sub is_sub_text is_global_name node_text node_cmp key_cmp row_field line_of layout_of data_node marker row_list row_class index_key key_node entry_node entry_list has_legal_entries stale differing child walk joins subscript_of after_of at_node gets sets kills increments orders calls calls_own writes frame edited loosed with_object prop_read is_at_or_below has_several read read_as edits_of load raise deleting delete look lock_keys test_targets kill_entries write save_items save open_object open_text open_id save_object delete_text delete_id next_id member_at method_of with_saved with_loaded with_member read_prop one_side_set slot_set given_back slot_from passed write_prop on_list on_array on_members on_class on_object on_items field.out-Field denote.Hole.Carrier.out
gone = simp (playing, views, items, drops, second_facts) refl

pub saves_again_worked : IsWorked saves_again
unfolding frame
saves_again_worked =
    process-plays accounts 10 1000000 (block again) saves_again.replies
    ∙ makes 10 1000000 (block again) 999998 saves_again.replies (rest 1000000 again 1) quits
    ∙ starts 10 1000000 (block again) 999996 (drop 1 saves_again.replies) (rest 1000000 again 2) quits
    ∙ ap (λ l. Asked ops.Begin ∷ l)
    (saves_it 999988 (drop 7 saves_again.replies) (rest 1000000 again 3) quits (block again)
    ∙ ap (λ l. take 8 (drop 1 saves_again.sees) ++ l)
    (undoes 10 1000000 (block again) 999986 (drop 8 saves_again.replies) (rest 1000000 again 4) quits
    ∙ ap (λ l. Asked ops.RollbackAll ∷ l) (renames_it 10 1000000 (block again) 999985 (drop 8 saves_again.replies) (rest 1000000 again 5) quits ∙ gone)))
