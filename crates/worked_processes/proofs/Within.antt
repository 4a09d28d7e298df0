-- Three saves in a transaction of a script, step by step.
use Rattle.std.proofs.Common.{pos, cond, not, ◌≡◌, ℕ, suc, Bool, Option, ap, ◌++◌, refl, ◌∙◌, List, [], ◌∷◌, Some, None, take, drop, true, false, codes}
use Rattle.std.specs.Fmt.{digits}
use Rattle.obj_kinds.specs.Subscript as subs
use Rattle.obj_kinds.specs.Subscript.{whole_of, is_number}
use Rattle.obj_kinds.specs.IdReading.{part_in, id_in}
use Rattle.obj_kinds.specs.NodeText.{node_text}
use Rattle.obj_kinds.specs.Order.{node_cmp}
use Rattle.obj_kinds.specs.Limits.{is_legal_text, is_legal_node, is_legal_sub, is_sub_text, is_global_name}
use Rattle.schema_kinds.specs.declared.record.Field as field
use Rattle.schema_kinds.specs.Worlds.{key_cmp}
use Rattle.record_layout.specs.Items.{row_field}
use Rattle.record_layout.specs.Layout.{line_of, layout_of}
use Rattle.record_layout.specs.Rows.{data_node, marker, row_list}
use Rattle.storage_map.specs.Markers.{row_class}
use Rattle.storage_map.specs.Entries.{index_key, key_node, entry_node, entry_list, has_legal_entries}
use Rattle.storage_map.specs.Changes.{stale, differing}
use Rattle.store_calls.specs.Walks.{child, walk}
use Rattle.os_meaning.specs.Values.{joins, subscript_of, after_of}
use Rattle.os_meaning.specs.Frames.{Vars, Rest, at_node, gets, sets, kills, increments, orders, calls, calls_own, writes}
use Rattle.os_meaning.specs.Meaning.{frame, runs}
use Rattle.oref_table.specs.Memory.{edited, loosed, with_object}
use Rattle.obj_shape.specs.Records.{record_of}
use Rattle.obj_props.specs.Properties.{prop_read}
use Rattle.obj_validity.specs.Faults.{root_fits, list_fits, object_fault}
use Rattle.object_calls.specs.Extents.{is_at_or_below, has_several}
use Rattle.object_calls.specs.Reading.{read, read_as}
use Rattle.object_calls.specs.Edits.{edits_of}
use Rattle.object_calls.specs.Loads.{load, raise}
use Rattle.object_calls.specs.Deletes.{deleting, delete}
use Rattle.object_calls.specs.Saves.{look, lock_keys, test_targets, kill_entries, write, save_items, save}
use Rattle.object_calls.specs.Reach.{reached}
use Rattle.object_calls.specs.Memories.{written}
use Rattle.object_calls.specs.ObjectCalls.{open_object, open_text, open_id, save_object, delete_text, delete_id, next_id, member_at}
use Rattle.host_meaning.specs.Methods.{method_of}
use Rattle.object_members.specs.Seeing.{with_saved, with_loaded, with_member, is_marked, fault_of, record_in}
use Rattle.prop_setting.specs.Elements.{slot_set, given_back}
use Rattle.oref_table.specs.Filling.{slot_from, passed}
use Rattle.object_members.specs.Reads.{read_prop}
use Rattle.object_members.specs.Writes.{one_side_set, write_prop}
use Rattle.object_members.specs.Lists.{on_list}
use Rattle.object_members.specs.Arrays.{on_array}
use Rattle.object_members.specs.ManySides.{on_members}
use Rattle.object_members.specs.Members.{on_class, on_object, on_items}
use Rattle.worked_processes.proofs.Drops.{drops}
use Rattle.worked_processes.proofs.Playing.{playing, plays, at_first, process-plays}
use Rattle.worked_processes.proofs.Views.{views, items}
use Rattle.obj_kinds.specs.declared.op.Reply.{Reply}
use Rattle.os_meaning.specs.Syntax.{Block}
use Rattle.os_meaning.specs.Samples.{block}
use Rattle.worked_processes.specs.Bank.{IsWorked}
use Rattle.oref_table.specs.declared.slot.Slot.TheVariants.{Target}
use Rattle.oref_table.specs.Memory.{Object, Memory}
use Rattle.object_calls.specs.Banking.{account}
use Rattle.object_calls.specs.Shown.{Asked}
use Rattle.obj_kinds.specs.declared.op.Op.TheVariants as ops
use Rattle.obj_kinds.specs.declared.op.Reply.TheVariants as reply
use Rattle.object_calls.specs.Saves.{Drawn}
use Rattle.object_members.specs.Seeing.{memories}
use Rattle.worked_processes.specs.Bank.{accounts}
use Rattle.worked_processes.specs.Again.{owned}
use Rattle.worked_processes.specs.Within.{within, saves_within}
use Rattle.obj_kinds.specs.declared.cause.Cause.TheVariants as cause
use Rattle.obj_kinds.specs.declared.cause.Why.TheVariants.{NotWhole}
use Rattle.worked_processes.proofs.Renamed.{account_of, memory_of, knows, is, quits, rest, command}
use Rattle.oref_table.specs.declared.obj.Freed.{Freed}
use Rattle.oref_table.specs.Dropping.{dropped}

abbrev first_is : Bool → ℕ → Object
first_is stored outside = account_of 1 (cond stored (Some (1 ∷ [])) None) 2 (not stored) (codes "A") [] (Target None) outside

abbrev second_is : ℕ → Object
second_is outside = account_of 2 None 2 true [] (codes "x") (Target None) outside

abbrev third_is : Bool → ℕ → Object
third_is stored outside = account_of 3 (cond stored (Some (2 ∷ [])) None) 2 (not stored) (codes "C") [] (Target None) outside

abbrev with_first : Bool → ℕ → Memory
with_first stored outside = memory_of (first_is stored outside ∷ []) 1

abbrev with_second : ℕ → Memory
with_second outside = memory_of (first_is true 1 ∷ second_is outside ∷ []) 2

abbrev with_third : Bool → ℕ → Memory
with_third stored outside = memory_of (first_is true 1 ∷ second_is 1 ∷ third_is stored outside ∷ []) 3

abbrev a_alone : Vars
a_alone = is (codes "a") 1 account ∷ []

abbrev a_and_b : Vars
a_and_b = is (codes "a") 1 account ∷ is (codes "b") 2 account ∷ []

abbrev all_three : Vars
all_three = is (codes "a") 1 account ∷ is (codes "b") 2 account ∷ is (codes "c") 3 account ∷ []

abbrev refusal : List ℕ
refusal = codes "0 Invalid Bank.Account Number NotWhole"

module _ (tries fuel : ℕ) (body : Block) (u : ℕ) (rs : List Reply) (go quit : Rest) where
  starts : plays accounts tries fuel body (runs None fuel (command 0 within) [] go quit) (suc (suc u)) at_first (reply.Number (pos 1) ∷ rs)
      ≡ Asked ops.Begin ∷ plays accounts tries fuel body (go []) u (knows (memory_of [] 0) 1 []) rs
  unfolding digits is_legal_text whole_of is_number subs.number_in part_in id_in is_legal_node is_legal_sub is_sub_text is_global_name node_text node_cmp key_cmp row_field line_of layout_of data_node marker row_list row_class index_key key_node entry_node entry_list has_legal_entries stale differing child walk joins subscript_of after_of at_node gets sets kills increments orders calls calls_own writes frame edited loosed with_object prop_read is_at_or_below has_several read read_as edits_of load raise deleting delete look lock_keys test_targets kill_entries write save_items save open_object open_text open_id save_object delete_text delete_id next_id member_at method_of with_saved with_loaded with_member read_prop one_side_set slot_set given_back slot_from passed write_prop on_list on_array on_members on_class on_object on_items field.out-Field denote.Hole.Carrier.out
  starts = simp (playing, views, drops) refl

  makes_first : plays accounts tries fuel body (runs None fuel (command 1 within) [] go quit) (suc (suc u)) (knows (memory_of [] 0) 1 []) rs ≡ plays accounts tries fuel body (go a_alone) u (knows (with_first false 1) 1 []) rs
  unfolding digits is_legal_text whole_of is_number subs.number_in part_in id_in is_legal_node is_legal_sub is_sub_text is_global_name node_text node_cmp key_cmp row_field line_of layout_of data_node marker row_list row_class index_key key_node entry_node entry_list has_legal_entries stale differing child walk joins subscript_of after_of at_node gets sets kills increments orders calls calls_own writes frame edited loosed with_object prop_read is_at_or_below has_several read read_as edits_of load raise deleting delete look lock_keys test_targets kill_entries write save_items save open_object open_text open_id save_object delete_text delete_id next_id member_at method_of with_saved with_loaded with_member read_prop one_side_set slot_set given_back slot_from passed write_prop on_list on_array on_members on_class on_object on_items field.out-Field denote.Hole.Carrier.out
  makes_first = simp (playing, views, drops) refl

  makes_second : plays accounts tries fuel body (runs None fuel (command 3 within) a_alone go quit) (suc (suc u)) (knows (with_first true 1) 1 []) rs ≡ plays accounts tries fuel body (go a_and_b) u (knows (with_second 1) 1 []) rs
  unfolding digits is_legal_text whole_of is_number subs.number_in part_in id_in is_legal_node is_legal_sub is_sub_text is_global_name node_text node_cmp key_cmp row_field line_of layout_of data_node marker row_list row_class index_key key_node entry_node entry_list has_legal_entries stale differing child walk joins subscript_of after_of at_node gets sets kills increments orders calls calls_own writes frame edited loosed with_object prop_read is_at_or_below has_several read read_as edits_of load raise deleting delete look lock_keys test_targets kill_entries write save_items save open_object open_text open_id save_object delete_text delete_id next_id member_at method_of with_saved with_loaded with_member read_prop one_side_set slot_set given_back slot_from passed write_prop on_list on_array on_members on_class on_object on_items field.out-Field denote.Hole.Carrier.out
  makes_second = simp (playing, views, drops) refl

  makes_third : plays accounts tries fuel body (runs None fuel (command 5 within) a_and_b go quit) (suc (suc u)) (knows (with_second 1) 1 refusal) rs ≡ plays accounts tries fuel body (go all_three) u (knows (with_third false 1) 1 []) rs
  unfolding digits is_legal_text whole_of is_number subs.number_in part_in id_in is_legal_node is_legal_sub is_sub_text is_global_name node_text node_cmp key_cmp row_field line_of layout_of data_node marker row_list row_class index_key key_node entry_node entry_list has_legal_entries stale differing child walk joins subscript_of after_of at_node gets sets kills increments orders calls calls_own writes frame edited loosed with_object prop_read is_at_or_below has_several read read_as edits_of load raise deleting delete look lock_keys test_targets kill_entries write save_items save open_object open_text open_id save_object delete_text delete_id next_id member_at method_of with_saved with_loaded with_member read_prop one_side_set slot_set given_back slot_from passed write_prop on_list on_array on_members on_class on_object on_items field.out-Field denote.Hole.Carrier.out
  makes_third = simp (playing, views, drops) refl

first_written : written (memories accounts) (with_first false 2) 1 ≡ 1 ∷ []
unfolding digits is_legal_text whole_of is_number subs.number_in part_in id_in is_legal_node is_legal_sub is_sub_text is_global_name node_text node_cmp key_cmp row_field line_of layout_of data_node marker row_list row_class index_key key_node entry_node entry_list has_legal_entries stale differing child walk joins subscript_of after_of at_node gets sets kills increments orders calls calls_own writes frame edited loosed with_object record_of prop_read root_fits list_fits object_fault is_at_or_below has_several read read_as edits_of load raise deleting delete look lock_keys test_targets kill_entries write save_items save reached written open_object open_text open_id save_object delete_text delete_id next_id member_at method_of with_saved with_loaded with_member is_marked fault_of record_in read_prop one_side_set slot_set given_back slot_from passed write_prop on_list on_array on_members on_class on_object on_items denote.Hole.Carrier.out
first_written = refl

first_fault : fault_of accounts (with_first false 2) 1 ≡ None
unfolding digits is_legal_text whole_of is_number subs.number_in part_in id_in is_legal_node is_legal_sub is_sub_text is_global_name node_text node_cmp key_cmp row_field line_of layout_of data_node marker row_list row_class index_key key_node entry_node entry_list has_legal_entries stale differing child walk joins subscript_of after_of at_node gets sets kills increments orders calls calls_own writes frame edited loosed with_object record_of prop_read root_fits list_fits object_fault is_at_or_below has_several read read_as edits_of load raise deleting delete look lock_keys test_targets kill_entries write save_items save reached written open_object open_text open_id save_object delete_text delete_id next_id member_at method_of with_saved with_loaded with_member is_marked fault_of record_in read_prop one_side_set slot_set given_back slot_from passed write_prop on_list on_array on_members on_class on_object on_items denote.Hole.Carrier.out
first_fault = simp (views, items) refl

first_record : (drawn : Drawn) → record_in accounts (with_first false 2) drawn 1 ≡ owned (codes "A")
unfolding digits is_legal_text whole_of is_number subs.number_in part_in id_in is_legal_node is_legal_sub is_sub_text is_global_name node_text node_cmp key_cmp row_field line_of layout_of data_node marker row_list row_class index_key key_node entry_node entry_list has_legal_entries stale differing child walk joins subscript_of after_of at_node gets sets kills increments orders calls calls_own writes frame edited loosed with_object record_of prop_read root_fits list_fits object_fault is_at_or_below has_several read read_as edits_of load raise deleting delete look lock_keys test_targets kill_entries write save_items save reached written open_object open_text open_id save_object delete_text delete_id next_id member_at method_of with_saved with_loaded with_member is_marked fault_of record_in read_prop one_side_set slot_set given_back slot_from passed write_prop on_list on_array on_members on_class on_object on_items denote.Hole.Carrier.out
first_record drawn = simp views refl

second_written : written (memories accounts) (with_second 2) 2 ≡ 2 ∷ []
unfolding digits is_legal_text whole_of is_number subs.number_in part_in id_in is_legal_node is_legal_sub is_sub_text is_global_name node_text node_cmp key_cmp row_field line_of layout_of data_node marker row_list row_class index_key key_node entry_node entry_list has_legal_entries stale differing child walk joins subscript_of after_of at_node gets sets kills increments orders calls calls_own writes frame edited loosed with_object record_of prop_read root_fits list_fits object_fault is_at_or_below has_several read read_as edits_of load raise deleting delete look lock_keys test_targets kill_entries write save_items save reached written open_object open_text open_id save_object delete_text delete_id next_id member_at method_of with_saved with_loaded with_member is_marked fault_of record_in read_prop one_side_set slot_set given_back slot_from passed write_prop on_list on_array on_members on_class on_object on_items denote.Hole.Carrier.out
second_written = simp (views, items) refl

second_fault : fault_of accounts (with_second 2) 2 ≡ Some (cause.Invalid account (codes "Number") NotWhole)
unfolding digits is_legal_text whole_of is_number subs.number_in part_in id_in is_legal_node is_legal_sub is_sub_text is_global_name node_text node_cmp key_cmp row_field line_of layout_of data_node marker row_list row_class index_key key_node entry_node entry_list has_legal_entries stale differing child walk joins subscript_of after_of at_node gets sets kills increments orders calls calls_own writes frame edited loosed with_object record_of prop_read root_fits list_fits object_fault is_at_or_below has_several read read_as edits_of load raise deleting delete look lock_keys test_targets kill_entries write save_items save reached written open_object open_text open_id save_object delete_text delete_id next_id member_at method_of with_saved with_loaded with_member is_marked fault_of record_in read_prop one_side_set slot_set given_back slot_from passed write_prop on_list on_array on_members on_class on_object on_items denote.Hole.Carrier.out
second_fault = simp (views, items) refl

third_written : written (memories accounts) (with_third false 2) 3 ≡ 3 ∷ []
unfolding digits is_legal_text whole_of is_number subs.number_in part_in id_in is_legal_node is_legal_sub is_sub_text is_global_name node_text node_cmp key_cmp row_field line_of layout_of data_node marker row_list row_class index_key key_node entry_node entry_list has_legal_entries stale differing child walk joins subscript_of after_of at_node gets sets kills increments orders calls calls_own writes frame edited loosed with_object record_of prop_read root_fits list_fits object_fault is_at_or_below has_several read read_as edits_of load raise deleting delete look lock_keys test_targets kill_entries write save_items save reached written open_object open_text open_id save_object delete_text delete_id next_id member_at method_of with_saved with_loaded with_member is_marked fault_of record_in read_prop one_side_set slot_set given_back slot_from passed write_prop on_list on_array on_members on_class on_object on_items denote.Hole.Carrier.out
third_written = simp (views, items) refl

third_fault : fault_of accounts (with_third false 2) 3 ≡ None
unfolding digits is_legal_text whole_of is_number subs.number_in part_in id_in is_legal_node is_legal_sub is_sub_text is_global_name node_text node_cmp key_cmp row_field line_of layout_of data_node marker row_list row_class index_key key_node entry_node entry_list has_legal_entries stale differing child walk joins subscript_of after_of at_node gets sets kills increments orders calls calls_own writes frame edited loosed with_object record_of prop_read root_fits list_fits object_fault is_at_or_below has_several read read_as edits_of load raise deleting delete look lock_keys test_targets kill_entries write save_items save reached written open_object open_text open_id save_object delete_text delete_id next_id member_at method_of with_saved with_loaded with_member is_marked fault_of record_in read_prop one_side_set slot_set given_back slot_from passed write_prop on_list on_array on_members on_class on_object on_items denote.Hole.Carrier.out
third_fault = simp (views, items) refl

third_record : (drawn : Drawn) → record_in accounts (with_third false 2) drawn 3 ≡ owned (codes "C")
unfolding digits is_legal_text whole_of is_number subs.number_in part_in id_in is_legal_node is_legal_sub is_sub_text is_global_name node_text node_cmp key_cmp row_field line_of layout_of data_node marker row_list row_class index_key key_node entry_node entry_list has_legal_entries stale differing child walk joins subscript_of after_of at_node gets sets kills increments orders calls calls_own writes frame edited loosed with_object record_of prop_read root_fits list_fits object_fault is_at_or_below has_several read read_as edits_of load raise deleting delete look lock_keys test_targets kill_entries write save_items save reached written open_object open_text open_id save_object delete_text delete_id next_id member_at method_of with_saved with_loaded with_member is_marked fault_of record_in read_prop one_side_set slot_set given_back slot_from passed write_prop on_list on_array on_members on_class on_object on_items denote.Hole.Carrier.out
third_record drawn = simp views refl

ruleset first_facts = (first_written, first_fault, first_record)

ruleset second_facts = (second_written, second_fault)

ruleset third_facts = (third_written, third_fault, third_record)

saves_first : (u : ℕ) (rs : List Reply) (go quit : Rest) (body : Block)
    → plays accounts 10 1000000 body (runs None 1000000 (command 2 within) a_alone go quit) (suc (suc (suc (suc (suc (suc (suc (suc u)))))))) (knows (with_first false 1) 1 []) (reply.Number (pos 2) ∷ reply.Number (pos 1) ∷ reply.Granted ∷ reply.Absent ∷ reply.Done ∷ reply.Number (pos 1) ∷ rs)
    ≡ take 8 (drop 1 saves_within.sees) ++ plays accounts 10 1000000 body (go a_alone) u (knows (with_first true 1) 1 []) rs
unfolding digits is_legal_text whole_of is_number subs.number_in part_in id_in is_legal_node is_legal_sub is_sub_text is_global_name node_text node_cmp key_cmp row_field line_of layout_of data_node marker row_list row_class index_key key_node entry_node entry_list has_legal_entries stale differing child walk joins subscript_of after_of at_node gets sets kills increments orders calls calls_own writes frame edited loosed with_object prop_read is_at_or_below has_several read read_as edits_of load raise deleting delete look lock_keys test_targets kill_entries write save_items save open_object open_text open_id save_object delete_text delete_id next_id member_at method_of with_saved with_loaded with_member read_prop one_side_set slot_set given_back slot_from passed write_prop on_list on_array on_members on_class on_object on_items field.out-Field denote.Hole.Carrier.out
saves_first u rs go quit body = simp (playing, views, items, drops, first_facts) refl

refuses_second : (u : ℕ) (rs : List Reply) (go quit : Rest) (body : Block)
    → plays accounts 10 1000000 body (runs None 1000000 (command 4 within) a_and_b go quit) (suc (suc u)) (knows (with_second 1) 1 []) rs
    ≡ take 3 (drop 9 saves_within.sees) ++ plays accounts 10 1000000 body (go a_and_b) u (knows (with_second 1) 1 refusal) rs
unfolding digits is_legal_text whole_of is_number subs.number_in part_in id_in is_legal_node is_legal_sub is_sub_text is_global_name node_text node_cmp key_cmp row_field line_of layout_of data_node marker row_list row_class index_key key_node entry_node entry_list has_legal_entries stale differing child walk joins subscript_of after_of at_node gets sets kills increments orders calls calls_own writes frame edited loosed with_object prop_read is_at_or_below has_several read read_as edits_of load raise deleting delete look lock_keys test_targets kill_entries write save_items save open_object open_text open_id save_object delete_text delete_id next_id member_at method_of with_saved with_loaded with_member read_prop one_side_set slot_set given_back slot_from passed write_prop on_list on_array on_members on_class on_object on_items field.out-Field denote.Hole.Carrier.out
refuses_second u rs go quit body = simp (playing, views, items, drops, second_facts) refl

saves_third : (u : ℕ) (rs : List Reply) (go quit : Rest) (body : Block)
    → plays accounts 10 1000000 body (runs None 1000000 (command 6 within) all_three go quit) (suc (suc (suc (suc (suc (suc (suc (suc u)))))))) (knows (with_third false 1) 1 []) (reply.Number (pos 2) ∷ reply.Number (pos 2) ∷ reply.Granted ∷ reply.Absent ∷ reply.Done ∷ reply.Number (pos 1) ∷ rs)
    ≡ take 8 (drop 12 saves_within.sees) ++ plays accounts 10 1000000 body (go all_three) u (knows (with_third true 1) 1 []) rs
unfolding digits is_legal_text whole_of is_number subs.number_in part_in id_in is_legal_node is_legal_sub is_sub_text is_global_name node_text node_cmp key_cmp row_field line_of layout_of data_node marker row_list row_class index_key key_node entry_node entry_list has_legal_entries stale differing child walk joins subscript_of after_of at_node gets sets kills increments orders calls calls_own writes frame edited loosed with_object prop_read is_at_or_below has_several read read_as edits_of load raise deleting delete look lock_keys test_targets kill_entries write save_items save open_object open_text open_id save_object delete_text delete_id next_id member_at method_of with_saved with_loaded with_member read_prop one_side_set slot_set given_back slot_from passed write_prop on_list on_array on_members on_class on_object on_items field.out-Field denote.Hole.Carrier.out
saves_third u rs go quit body = simp (playing, views, items, drops, third_facts) refl

-- ---- the variables go, one after the other

abbrev with_freed : List Object → List Freed → Memory
with_freed objects freed = record { objects = objects; last = 3; freed = freed }

abbrev freed_with : ℕ → Option (List ℕ) → Freed
freed_with n id = record { number = n; extent = Some account; id = id; level = 2 }

first_goes : (fs : List Freed) → dropped (loosed (with_freed (first_is true 1 ∷ second_is 1 ∷ third_is true 1 ∷ []) fs) (1 ∷ [])) ≡ with_freed (second_is 1 ∷ third_is true 1 ∷ []) (fs ++ freed_with 1 (Some (1 ∷ [])) ∷ [])
unfolding loosed
first_goes fs = simp (views, items, drops) refl

second_goes : (fs : List Freed) → dropped (loosed (with_freed (second_is 1 ∷ third_is true 1 ∷ []) fs) (2 ∷ [])) ≡ with_freed (third_is true 1 ∷ []) (fs ++ freed_with 2 None ∷ [])
unfolding loosed
second_goes fs = simp (views, items, drops) refl

third_goes : (fs : List Freed) → dropped (loosed (with_freed (third_is true 1 ∷ []) fs) (3 ∷ [])) ≡ with_freed [] (fs ++ freed_with 3 (Some (2 ∷ [])) ∷ [])
unfolding loosed
third_goes fs = simp (views, items, drops) refl

ruleset goes = (first_goes, second_goes, third_goes)

commits : plays accounts 10 1000000 (block within) (rest 1000000 within 7 all_three) 999974 (knows (with_third true 1) 1 []) (reply.Number (pos 0) ∷ []) ≡ drop 20 saves_within.sees
unfolding digits is_legal_text whole_of is_number subs.number_in part_in id_in is_legal_node is_legal_sub is_sub_text is_global_name node_text node_cmp key_cmp row_field line_of layout_of data_node marker row_list row_class index_key key_node entry_node entry_list has_legal_entries stale differing child walk joins subscript_of after_of at_node gets sets kills increments orders calls calls_own writes frame edited with_object prop_read is_at_or_below has_several read read_as edits_of load raise deleting delete look lock_keys test_targets kill_entries write save_items save open_object open_text open_id save_object delete_text delete_id next_id member_at method_of with_saved with_loaded with_member read_prop one_side_set slot_set given_back slot_from passed write_prop on_list on_array on_members on_class on_object on_items field.out-Field denote.Hole.Carrier.out
commits = simp (playing, views, goes) refl

pub saves_within_worked : IsWorked saves_within
unfolding frame
saves_within_worked =
    process-plays accounts 10 1000000 (block within) saves_within.replies
    ∙ starts 10 1000000 (block within) 999998 (drop 1 saves_within.replies) (rest 1000000 within 1) quits
    ∙ ap (λ l. Asked ops.Begin ∷ l)
    (makes_first 10 1000000 (block within) 999996 (drop 1 saves_within.replies) (rest 1000000 within 2) quits
    ∙ saves_first 999988 (drop 7 saves_within.replies) (rest 1000000 within 3) quits (block within)
    ∙ ap (λ l. take 8 (drop 1 saves_within.sees) ++ l)
    (makes_second 10 1000000 (block within) 999986 (drop 7 saves_within.replies) (rest 1000000 within 4) quits
    ∙ refuses_second 999984 (drop 7 saves_within.replies) (rest 1000000 within 5) quits (block within)
    ∙ ap (λ l. take 3 (drop 9 saves_within.sees) ++ l)
    (makes_third 10 1000000 (block within) 999982 (drop 7 saves_within.replies) (rest 1000000 within 6) quits
    ∙ saves_third 999974 (drop 13 saves_within.replies) (rest 1000000 within 7) quits (block within)
    ∙ ap (λ l. take 8 (drop 12 saves_within.sees) ++ l) commits)))
