-- A clerk whose branch was rolled back, step by step.
use Rattle.std.proofs.Common.{pos, ◌≡◌, ℕ, suc, Option, ap, ◌++◌, refl, ◌∙◌, List, [], ◌∷◌, Some, None, take, drop, true, false, codes}
use Rattle.std.specs.Fmt.{digits}
use Rattle.obj_kinds.specs.Subscript as subs
use Rattle.obj_kinds.specs.Subscript.{whole_of, is_number}
use Rattle.obj_kinds.specs.IdReading.{part_in, id_in}
use Rattle.obj_kinds.specs.NodeText.{node_text}
use Rattle.obj_kinds.specs.Order.{node_cmp}
use Rattle.obj_kinds.specs.Limits.{is_legal_text, is_legal_node, is_legal_sub, is_sub_text, is_global_name}
use Rattle.schema_kinds.specs.declared.record.Field as field
use Rattle.schema_kinds.specs.Worlds.{key_cmp}
use Rattle.record_layout.specs.Items.{row_field}
use Rattle.record_layout.specs.Layout.{line_of, layout_of}
use Rattle.record_layout.specs.Rows.{data_node, marker, row_list}
use Rattle.storage_map.specs.Markers.{row_class}
use Rattle.storage_map.specs.Entries.{index_key, key_node, entry_node, entry_list, has_legal_entries}
use Rattle.storage_map.specs.Changes.{stale, differing}
use Rattle.store_calls.specs.Walks.{child, walk}
use Rattle.os_meaning.specs.Values.{joins, subscript_of, after_of}
use Rattle.os_meaning.specs.Frames.{Vars, Rest, at_node, gets, sets, kills, increments, orders, calls, calls_own, writes}
use Rattle.os_meaning.specs.Meaning.{frame, runs}
use Rattle.oref_table.specs.Memory.{edited, loosed, with_object}
use Rattle.obj_shape.specs.Records.{record_of}
use Rattle.obj_props.specs.Properties.{prop_read}
use Rattle.obj_validity.specs.Faults.{root_fits, list_fits, object_fault}
use Rattle.object_calls.specs.Extents.{is_at_or_below, has_several}
use Rattle.object_calls.specs.Reading.{read, read_as}
use Rattle.object_calls.specs.Edits.{edits_of}
use Rattle.object_calls.specs.Loads.{load, raise}
use Rattle.object_calls.specs.Deletes.{deleting, delete}
use Rattle.object_calls.specs.Saves.{look, lock_keys, test_targets, kill_entries, write, save_items, save}
use Rattle.object_calls.specs.Reach.{reached}
use Rattle.object_calls.specs.Memories.{written}
use Rattle.object_calls.specs.ObjectCalls.{open_object, open_text, open_id, save_object, delete_text, delete_id, next_id, member_at}
use Rattle.host_meaning.specs.Methods.{method_of}
use Rattle.object_members.specs.Seeing.{with_saved, with_loaded, with_member, is_marked, fault_of, record_in}
use Rattle.prop_setting.specs.Elements.{slot_set, given_back}
use Rattle.oref_table.specs.Filling.{slot_from, passed}
use Rattle.object_members.specs.Reads.{read_prop}
use Rattle.object_members.specs.Writes.{one_side_set, write_prop}
use Rattle.object_members.specs.Lists.{on_list}
use Rattle.object_members.specs.Arrays.{on_array}
use Rattle.object_members.specs.ManySides.{on_members}
use Rattle.object_members.specs.Members.{on_class, on_object, on_items}
use Rattle.worked_processes.proofs.Drops.{drops}
use Rattle.worked_processes.proofs.Playing.{playing, plays, at_first, process-plays}
use Rattle.worked_processes.proofs.Views.{views, items}
use Rattle.obj_kinds.specs.declared.op.Reply.{Reply}
use Rattle.os_meaning.specs.Syntax.{Block}
use Rattle.os_meaning.specs.Samples.{block}
use Rattle.worked_processes.specs.Bank.{IsWorked}
use Rattle.obj_kinds.specs.declared.value.Value.TheVariants as value
use Rattle.oref_table.specs.declared.slot.Slot.TheVariants.{Plain}
use Rattle.oref_table.specs.Memory.{Object, Memory}
use Rattle.object_calls.specs.Shown.{Asked}
use Rattle.obj_kinds.specs.declared.op.Op.TheVariants as ops
use Rattle.obj_kinds.specs.declared.op.Reply.TheVariants as reply
use Rattle.object_calls.specs.Saves.{Drawn}
use Rattle.object_members.specs.Seeing.{memories}
use Rattle.worked_processes.specs.Sides.{lacking, lacks_target}
use Rattle.worked_processes.specs.Bank.{branches}
use Rattle.object_calls.specs.Banking.{branch, clerk, branch_record, clerk_record}
use Rattle.oref_table.specs.declared.oref.Oref.{Oref}
use Rattle.oref_table.specs.declared.slot.Slot.TheVariants.{To, Members}
use Rattle.worked_processes.proofs.Renamed.{memory_of, knows, is, quits, rest, command}

abbrev branch_of : Option (List ℕ) → List Oref → ℕ → Object
branch_of id members outside = record { number = 1; class = branch; extent = Some branch; id = id; level = 2; modified = false; slots = Plain (value.Str []) ∷ Members members ∷ []; outside = outside }

abbrev clerk_of : ℕ → Object
clerk_of outside = record { number = 2; class = clerk; extent = Some clerk; id = None; level = 2; modified = true; slots = Plain (value.Str []) ∷ To (record { 0 = 1 }) ∷ []; outside = outside }

abbrev branch_alone : Option (List ℕ) → ℕ → Memory
branch_alone id outside = memory_of (branch_of id [] outside ∷ []) 1

abbrev first_id : Option (List ℕ)
first_id = Some (1 ∷ [])

abbrev with_clerk : ℕ → Memory
with_clerk outside = memory_of (branch_of first_id (record { 0 = 2 } ∷ []) 1 ∷ clerk_of outside ∷ []) 2

abbrev b_alone : Vars
b_alone = is (codes "b") 1 branch ∷ []

abbrev b_and_c : Vars
b_and_c = is (codes "b") 1 branch ∷ is (codes "c") 2 clerk ∷ []

module _ (body : Block) (u : ℕ) (rs : List Reply) (go quit : Rest) where
  makes : plays branches 10 1000000 body (runs None 1000000 (command 0 lacking) [] go quit) (suc u) at_first rs ≡ plays branches 10 1000000 body (go b_alone) u (knows (branch_alone None 1) 0 []) rs
  unfolding digits is_legal_text whole_of is_number subs.number_in part_in id_in is_legal_node is_legal_sub is_sub_text is_global_name node_text node_cmp key_cmp row_field line_of layout_of data_node marker row_list row_class index_key key_node entry_node entry_list has_legal_entries stale differing child walk joins subscript_of after_of at_node gets sets kills increments orders calls calls_own writes frame edited loosed with_object prop_read is_at_or_below has_several read read_as edits_of load raise deleting delete look lock_keys test_targets kill_entries write save_items save open_object open_text open_id save_object delete_text delete_id next_id member_at method_of with_saved with_loaded with_member read_prop one_side_set slot_set given_back slot_from passed write_prop on_list on_array on_members on_class on_object on_items field.out-Field denote.Hole.Carrier.out
  makes = simp (playing, views, drops) refl

  starts : plays branches 10 1000000 body (runs None 1000000 (command 1 lacking) b_alone go quit) (suc (suc u)) (knows (branch_alone None 1) 0 []) (reply.Number (pos 1) ∷ rs)
      ≡ Asked ops.Begin ∷ plays branches 10 1000000 body (go b_alone) u (knows (branch_alone None 1) 1 []) rs
  unfolding digits is_legal_text whole_of is_number subs.number_in part_in id_in is_legal_node is_legal_sub is_sub_text is_global_name node_text node_cmp key_cmp row_field line_of layout_of data_node marker row_list row_class index_key key_node entry_node entry_list has_legal_entries stale differing child walk joins subscript_of after_of at_node gets sets kills increments orders calls calls_own writes frame edited loosed with_object prop_read is_at_or_below has_several read read_as edits_of load raise deleting delete look lock_keys test_targets kill_entries write save_items save open_object open_text open_id save_object delete_text delete_id next_id member_at method_of with_saved with_loaded with_member read_prop one_side_set slot_set given_back slot_from passed write_prop on_list on_array on_members on_class on_object on_items field.out-Field denote.Hole.Carrier.out
  starts = simp (playing, views, drops) refl

  undoes : plays branches 10 1000000 body (runs None 1000000 (command 3 lacking) b_alone go quit) (suc (suc u)) (knows (branch_alone first_id 1) 1 []) (reply.Done ∷ rs)
      ≡ Asked ops.RollbackAll ∷ plays branches 10 1000000 body (go b_alone) u (knows (branch_alone first_id 1) 0 []) rs
  unfolding digits is_legal_text whole_of is_number subs.number_in part_in id_in is_legal_node is_legal_sub is_sub_text is_global_name node_text node_cmp key_cmp row_field line_of layout_of data_node marker row_list row_class index_key key_node entry_node entry_list has_legal_entries stale differing child walk joins subscript_of after_of at_node gets sets kills increments orders calls calls_own writes frame edited loosed with_object prop_read is_at_or_below has_several read read_as edits_of load raise deleting delete look lock_keys test_targets kill_entries write save_items save open_object open_text open_id save_object delete_text delete_id next_id member_at method_of with_saved with_loaded with_member read_prop one_side_set slot_set given_back slot_from passed write_prop on_list on_array on_members on_class on_object on_items field.out-Field denote.Hole.Carrier.out
  undoes = simp (playing, views, drops) refl

  makes_clerk : plays branches 10 1000000 body (runs None 1000000 (command 4 lacking) b_alone go quit) (suc (suc u)) (knows (branch_alone first_id 1) 0 []) rs ≡ plays branches 10 1000000 body (go b_and_c) u (knows (with_clerk 1) 0 []) rs
  unfolding digits is_legal_text whole_of is_number subs.number_in part_in id_in is_legal_node is_legal_sub is_sub_text is_global_name node_text node_cmp key_cmp row_field line_of layout_of data_node marker row_list row_class index_key key_node entry_node entry_list has_legal_entries stale differing child walk joins subscript_of after_of at_node gets sets kills increments orders calls calls_own writes frame edited loosed with_object prop_read is_at_or_below has_several read read_as edits_of load raise deleting delete look lock_keys test_targets kill_entries write save_items save open_object open_text open_id save_object delete_text delete_id next_id member_at method_of with_saved with_loaded with_member read_prop one_side_set slot_set given_back slot_from passed write_prop on_list on_array on_members on_class on_object on_items field.out-Field denote.Hole.Carrier.out
  makes_clerk = simp (playing, views, drops) refl

branch_written : written (memories branches) (branch_alone None 2) 1 ≡ 1 ∷ []
unfolding digits is_legal_text whole_of is_number subs.number_in part_in id_in is_legal_node is_legal_sub is_sub_text is_global_name node_text node_cmp key_cmp row_field line_of layout_of data_node marker row_list row_class index_key key_node entry_node entry_list has_legal_entries stale differing child walk joins subscript_of after_of at_node gets sets kills increments orders calls calls_own writes frame edited loosed with_object record_of prop_read root_fits list_fits object_fault is_at_or_below has_several read read_as edits_of load raise deleting delete look lock_keys test_targets kill_entries write save_items save reached written open_object open_text open_id save_object delete_text delete_id next_id member_at method_of with_saved with_loaded with_member is_marked fault_of record_in read_prop one_side_set slot_set given_back slot_from passed write_prop on_list on_array on_members on_class on_object on_items denote.Hole.Carrier.out
branch_written = refl

branch_fault : fault_of branches (branch_alone None 2) 1 ≡ None
unfolding digits is_legal_text whole_of is_number subs.number_in part_in id_in is_legal_node is_legal_sub is_sub_text is_global_name node_text node_cmp key_cmp row_field line_of layout_of data_node marker row_list row_class index_key key_node entry_node entry_list has_legal_entries stale differing child walk joins subscript_of after_of at_node gets sets kills increments orders calls calls_own writes frame edited loosed with_object record_of prop_read root_fits list_fits object_fault is_at_or_below has_several read read_as edits_of load raise deleting delete look lock_keys test_targets kill_entries write save_items save reached written open_object open_text open_id save_object delete_text delete_id next_id member_at method_of with_saved with_loaded with_member is_marked fault_of record_in read_prop one_side_set slot_set given_back slot_from passed write_prop on_list on_array on_members on_class on_object on_items denote.Hole.Carrier.out
branch_fault = simp (views, items) refl

branch_recorded : (drawn : Drawn) → record_in branches (branch_alone None 2) drawn 1 ≡ branch_record []
unfolding digits is_legal_text whole_of is_number subs.number_in part_in id_in is_legal_node is_legal_sub is_sub_text is_global_name node_text node_cmp key_cmp row_field line_of layout_of data_node marker row_list row_class index_key key_node entry_node entry_list has_legal_entries stale differing child walk joins subscript_of after_of at_node gets sets kills increments orders calls calls_own writes frame edited loosed with_object record_of prop_read root_fits list_fits object_fault is_at_or_below has_several read read_as edits_of load raise deleting delete look lock_keys test_targets kill_entries write save_items save reached written open_object open_text open_id save_object delete_text delete_id next_id member_at method_of with_saved with_loaded with_member is_marked fault_of record_in read_prop one_side_set slot_set given_back slot_from passed write_prop on_list on_array on_members on_class on_object on_items denote.Hole.Carrier.out
branch_recorded drawn = simp views refl

clerk_written : written (memories branches) (with_clerk 2) 2 ≡ 2 ∷ []
unfolding digits is_legal_text whole_of is_number subs.number_in part_in id_in is_legal_node is_legal_sub is_sub_text is_global_name node_text node_cmp key_cmp row_field line_of layout_of data_node marker row_list row_class index_key key_node entry_node entry_list has_legal_entries stale differing child walk joins subscript_of after_of at_node gets sets kills increments orders calls calls_own writes frame edited loosed with_object record_of prop_read root_fits list_fits object_fault is_at_or_below has_several read read_as edits_of load raise deleting delete look lock_keys test_targets kill_entries write save_items save reached written open_object open_text open_id save_object delete_text delete_id next_id member_at method_of with_saved with_loaded with_member is_marked fault_of record_in read_prop one_side_set slot_set given_back slot_from passed write_prop on_list on_array on_members on_class on_object on_items denote.Hole.Carrier.out
clerk_written = simp (views, items) refl

clerk_fault : fault_of branches (with_clerk 2) 2 ≡ None
unfolding digits is_legal_text whole_of is_number subs.number_in part_in id_in is_legal_node is_legal_sub is_sub_text is_global_name node_text node_cmp key_cmp row_field line_of layout_of data_node marker row_list row_class index_key key_node entry_node entry_list has_legal_entries stale differing child walk joins subscript_of after_of at_node gets sets kills increments orders calls calls_own writes frame edited loosed with_object record_of prop_read root_fits list_fits object_fault is_at_or_below has_several read read_as edits_of load raise deleting delete look lock_keys test_targets kill_entries write save_items save reached written open_object open_text open_id save_object delete_text delete_id next_id member_at method_of with_saved with_loaded with_member is_marked fault_of record_in read_prop one_side_set slot_set given_back slot_from passed write_prop on_list on_array on_members on_class on_object on_items denote.Hole.Carrier.out
clerk_fault = simp (views, items) refl

clerk_recorded : (id : ℕ) → record_in branches (with_clerk 2) ((2, id ∷ []) ∷ []) 2 ≡ clerk_record [] (Some (1 ∷ []))
unfolding digits is_legal_text whole_of is_number subs.number_in part_in id_in is_legal_node is_legal_sub is_sub_text is_global_name node_text node_cmp key_cmp row_field line_of layout_of data_node marker row_list row_class index_key key_node entry_node entry_list has_legal_entries stale differing child walk joins subscript_of after_of at_node gets sets kills increments orders calls calls_own writes frame edited loosed with_object record_of prop_read root_fits list_fits object_fault is_at_or_below has_several read read_as edits_of load raise deleting delete look lock_keys test_targets kill_entries write save_items save reached written open_object open_text open_id save_object delete_text delete_id next_id member_at method_of with_saved with_loaded with_member is_marked fault_of record_in read_prop one_side_set slot_set given_back slot_from passed write_prop on_list on_array on_members on_class on_object on_items denote.Hole.Carrier.out
clerk_recorded id = simp (views, items) refl

ruleset branch_facts = (branch_written, branch_fault, branch_recorded)

ruleset clerk_facts = (clerk_written, clerk_fault, clerk_recorded)

saves_branch : (u : ℕ) (rs : List Reply) (go quit : Rest) (body : Block)
    → plays branches 10 1000000 body (runs None 1000000 (command 2 lacking) b_alone go quit) (suc (suc (suc (suc (suc (suc (suc (suc u)))))))) (knows (branch_alone None 1) 1 []) (reply.Number (pos 2) ∷ reply.Number (pos 1) ∷ reply.Granted ∷ reply.Absent ∷ reply.Done ∷ reply.Number (pos 1) ∷ rs)
    ≡ take 8 (drop 1 lacks_target.sees) ++ plays branches 10 1000000 body (go b_alone) u (knows (branch_alone first_id 1) 1 []) rs
unfolding digits is_legal_text whole_of is_number subs.number_in part_in id_in is_legal_node is_legal_sub is_sub_text is_global_name node_text node_cmp key_cmp row_field line_of layout_of data_node marker row_list row_class index_key key_node entry_node entry_list has_legal_entries stale differing child walk joins subscript_of after_of at_node gets sets kills increments orders calls calls_own writes frame edited loosed with_object prop_read is_at_or_below has_several read read_as edits_of load raise deleting delete look lock_keys test_targets kill_entries write save_items save open_object open_text open_id save_object delete_text delete_id next_id member_at method_of with_saved with_loaded with_member read_prop one_side_set slot_set given_back slot_from passed write_prop on_list on_array on_members on_class on_object on_items field.out-Field denote.Hole.Carrier.out
saves_branch u rs go quit body = simp (playing, views, items, drops, branch_facts) refl

lacks : plays branches 10 1000000 (block lacking) (rest 1000000 lacking 5 b_and_c) 999985 (knows (with_clerk 1) 0 []) (drop 8 lacks_target.replies) ≡ drop 10 lacks_target.sees
unfolding digits is_legal_text whole_of is_number subs.number_in part_in id_in is_legal_node is_legal_sub is_sub_text is_global_name node_text node_cmp key_cmp row_field line_of layout_of data_node marker row_list row_class index_key key_node entry_node entry_list has_legal_entries stale differing child walk joins subscript_of after_of at_node gets sets kills increments orders calls calls_own writes frame edited loosed with_object prop_read is_at_or_below has_several read read_as edits_of load raise deleting delete look lock_keys test_targets kill_entries write save_items save open_object open_text open_id save_object delete_text delete_id next_id member_at method_of with_saved with_loaded with_member read_prop one_side_set slot_set given_back slot_from passed write_prop on_list on_array on_members on_class on_object on_items field.out-Field denote.Hole.Carrier.out
lacks = simp (playing, views, items, drops, clerk_facts) refl

pub lacks_target_worked : IsWorked lacks_target
unfolding frame
lacks_target_worked =
    process-plays branches 10 1000000 (block lacking) lacks_target.replies
    ∙ makes (block lacking) 999999 lacks_target.replies (rest 1000000 lacking 1) quits
    ∙ starts (block lacking) 999997 (drop 1 lacks_target.replies) (rest 1000000 lacking 2) quits
    ∙ ap (λ l. Asked ops.Begin ∷ l)
    (saves_branch 999989 (drop 7 lacks_target.replies) (rest 1000000 lacking 3) quits (block lacking)
    ∙ ap (λ l. take 8 (drop 1 lacks_target.sees) ++ l)
    (undoes (block lacking) 999987 (drop 8 lacks_target.replies) (rest 1000000 lacking 4) quits
    ∙ ap (λ l. Asked ops.RollbackAll ∷ l) (makes_clerk (block lacking) 999985 (drop 8 lacks_target.replies) (rest 1000000 lacking 5) quits ∙ lacks)))
