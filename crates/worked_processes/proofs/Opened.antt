-- What the worked processes that open an object once or twice show, stage by stage.
use Rattle.std.proofs.Common.{◌≡◌, ℕ, suc, Bool, Option, ap, ◌++◌, refl, ◌∙◌, List, [], ◌∷◌, Some, None, take, drop, false, codes}
use Rattle.std.specs.Fmt.{digits}
use Rattle.obj_kinds.specs.Subscript as subs
use Rattle.obj_kinds.specs.Subscript.{whole_of, is_number}
use Rattle.obj_kinds.specs.IdReading.{part_in, id_in}
use Rattle.obj_kinds.specs.NodeText.{node_text}
use Rattle.obj_kinds.specs.Order.{node_cmp}
use Rattle.obj_kinds.specs.Limits.{is_legal_text, is_legal_node, is_legal_sub, is_sub_text, is_global_name}
use Rattle.schema_kinds.specs.declared.record.Field as field
use Rattle.schema_kinds.specs.Worlds.{key_cmp}
use Rattle.record_layout.specs.Items.{row_field}
use Rattle.record_layout.specs.Layout.{line_of, layout_of}
use Rattle.record_layout.specs.Rows.{data_node, marker, row_list}
use Rattle.storage_map.specs.Markers.{row_class}
use Rattle.storage_map.specs.Entries.{index_key, key_node, entry_node, entry_list, has_legal_entries}
use Rattle.storage_map.specs.Changes.{stale, differing}
use Rattle.store_calls.specs.Walks.{child, walk}
use Rattle.os_meaning.specs.Values.{text_value, joins, subscript_of, after_of}
use Rattle.os_meaning.specs.Frames.{Var, Vars, Rest, at_node, gets, sets, kills, increments, orders, calls, calls_own, writes}
use Rattle.os_meaning.specs.Meaning.{frame, runs}
use Rattle.os_meaning.specs.Commands.{leaves}
use Rattle.oref_table.specs.Memory.{edited, loosed, with_object}
use Rattle.obj_props.specs.Properties.{prop_read}
use Rattle.object_calls.specs.Extents.{is_at_or_below, has_several}
use Rattle.object_calls.specs.Reading.{read, read_as}
use Rattle.object_calls.specs.Edits.{edits_of}
use Rattle.object_calls.specs.Loads.{load, raise}
use Rattle.object_calls.specs.Deletes.{deleting, delete}
use Rattle.object_calls.specs.Saves.{look, lock_keys, test_targets, kill_entries, write, save_items, save}
use Rattle.object_calls.specs.ObjectCalls.{open_object, open_text, open_id, save_object, delete_text, delete_id, next_id, member_at}
use Rattle.host_meaning.specs.Methods.{method_of}
use Rattle.object_members.specs.Seeing.{with_saved, with_loaded, with_member}
use Rattle.prop_setting.specs.Elements.{slot_set, given_back}
use Rattle.oref_table.specs.Filling.{slot_from, passed}
use Rattle.object_members.specs.Reads.{read_prop}
use Rattle.object_members.specs.Writes.{one_side_set, write_prop}
use Rattle.object_members.specs.Lists.{on_list}
use Rattle.object_members.specs.Arrays.{on_array}
use Rattle.object_members.specs.ManySides.{on_members}
use Rattle.object_members.specs.Members.{on_class, on_object, on_items}
use Rattle.worked_processes.proofs.Drops.{drops}
use Rattle.worked_processes.proofs.Playing.{playing, plays, at_first, process-plays}
use Rattle.worked_processes.proofs.Views.{views, items}
use Rattle.obj_kinds.specs.declared.op.Reply.{Reply}
use Rattle.os_meaning.specs.Syntax.{Command, Block}
use Rattle.os_meaning.specs.Samples.{block}
use Rattle.worked_processes.specs.Bank.{IsWorked}
use Rattle.obj_kinds.specs.declared.value.Value.TheVariants as value
use Rattle.oref_table.specs.declared.slot.Slot.{Slot}
use Rattle.oref_table.specs.declared.slot.Slot.TheVariants.{Plain, Target}
use Rattle.os_kinds.specs.declared.val.Val.TheVariants.{Ref}
use Rattle.oref_table.specs.Memory.{Object, Memory}
use Rattle.object_calls.specs.Banking.{account, key_in, account_row}
use Rattle.object_calls.specs.Asking.{lock_counted, unlock}
use Rattle.object_calls.specs.Shown.{Noted, Asked}
use Rattle.object_calls.specs.LoadSamples.{ann}
use Rattle.store_calls.specs.Calls.{Loaded, Failed, Opening}
use Rattle.obj_kinds.specs.declared.cause.Cause.TheVariants as cause
use Rattle.obj_kinds.specs.declared.name.ClassName.{ClassName}
use Rattle.obj_kinds.specs.declared.op.Op.TheVariants as ops
use Rattle.obj_kinds.specs.declared.op.Mode.TheVariants.{Shared, Exclusive}
use Rattle.obj_kinds.specs.declared.op.Reply.TheVariants as reply
use Rattle.worked_processes.specs.Loading.{ann_row, busy, opens_later, opens_twice}
use Rattle.host_meaning.specs.Objects.{Known}
use Rattle.worked_processes.specs.Bank.{accounts, prints, new_line}

-- ---- words

abbrev account_of : ℕ → Option (List ℕ) → ℕ → Bool → List ℕ → List ℕ → Slot → ℕ → Object
account_of n id level modified owner number next outside = record { number = n; class = account; extent = Some account; id = id; level = level; modified = modified; slots = Plain (value.Str owner) ∷ Plain (value.Str number) ∷ next ∷ []; outside = outside }

abbrev memory_of : List Object → ℕ → Memory
memory_of objects last = record { objects = objects; last = last; freed = [] }

abbrev knows : Memory → ℕ → List ℕ → Known Memory
knows m level error = record { memory = m; level = level; test = false; last_error = error }

abbrev is : List ℕ → ℕ → ClassName → Var
is x n class = record { name = x; value = Ref n class }

abbrev quits : Rest
quits = leaves None 0 (text_value [])

-- what is left of a script behind so many commands
abbrev rest : ℕ → List Command → ℕ → Rest
rest fuel script n vars = runs None fuel (block (drop n script)) vars quits quits

abbrev command : ℕ → List Command → Block
command n script = block (take 1 (drop n script))

-- ---- an account is tried three times, and opened once it is free

abbrev ann_one : ℕ → ℕ → Memory
ann_one level outside = memory_of (account_of 1 (Some (1 ∷ [])) level false (codes "Ann") (codes "7") (Target None) outside ∷ []) 1

abbrev var_b : Vars
var_b = is (codes "b") 1 account ∷ []

abbrev no_b : Vars
no_b = record { name = codes "b"; value = text_value [] } ∷ []

abbrev failed : List ℕ
failed = codes "0 Busy 1 ^Bank.AccountD(1)"

module _ (body : Block) (u : ℕ) (rs : List Reply) (go quit : Rest) where
  refused : plays accounts 3 1000000 body (runs None 1000000 (command 0 opens_later.script) [] go quit) (suc (suc (suc (suc u)))) at_first (busy ∷ busy ∷ busy ∷ rs)
      ≡ Asked (lock_counted Shared (account_row 1)) ∷ Asked (lock_counted Shared (account_row 1)) ∷ Asked (lock_counted Shared (account_row 1))
      ∷ Noted (Failed (Opening (key_in account 1) account) 0 (cause.Busy (record { 0 = 1 }) (account_row 1)))
      ∷ plays accounts 3 1000000 body (go no_b) u (knows (memory_of [] 0) 0 failed) rs
  unfolding digits is_legal_text whole_of is_number subs.number_in part_in id_in is_legal_node is_legal_sub is_sub_text is_global_name node_text node_cmp key_cmp row_field line_of layout_of data_node marker row_list row_class index_key key_node entry_node entry_list has_legal_entries stale differing child walk joins subscript_of after_of at_node gets sets kills increments orders calls calls_own writes frame edited loosed with_object prop_read is_at_or_below has_several read read_as edits_of load raise deleting delete look lock_keys test_targets kill_entries write save_items save open_object open_text open_id save_object delete_text delete_id next_id member_at method_of with_saved with_loaded with_member read_prop one_side_set slot_set given_back slot_from passed write_prop on_list on_array on_members on_class on_object on_items field.out-Field denote.Hole.Carrier.out
  refused = simp (playing, views, drops) refl

  tells : plays accounts 3 1000000 body (runs None 1000000 (command 1 opens_later.script) no_b go quit) (suc (suc u)) (knows (memory_of [] 0) 0 failed) rs
      ≡ prints failed ∷ new_line ∷ plays accounts 3 1000000 body (go no_b) u (knows (memory_of [] 0) 0 failed) rs
  unfolding digits is_legal_text whole_of is_number subs.number_in part_in id_in is_legal_node is_legal_sub is_sub_text is_global_name node_text node_cmp key_cmp row_field line_of layout_of data_node marker row_list row_class index_key key_node entry_node entry_list has_legal_entries stale differing child walk joins subscript_of after_of at_node gets sets kills increments orders calls calls_own writes frame edited loosed with_object prop_read is_at_or_below has_several read read_as edits_of load raise deleting delete look lock_keys test_targets kill_entries write save_items save open_object open_text open_id save_object delete_text delete_id next_id member_at method_of with_saved with_loaded with_member read_prop one_side_set slot_set given_back slot_from passed write_prop on_list on_array on_members on_class on_object on_items field.out-Field denote.Hole.Carrier.out
  tells = simp (playing, views, drops) refl

  opens : plays accounts 3 1000000 body (runs None 1000000 (command 2 opens_later.script) no_b go quit) (suc (suc (suc (suc u)))) (knows (memory_of [] 0) 0 failed) (reply.Granted ∷ ann_row ∷ reply.Done ∷ rs)
      ≡ Asked (lock_counted Shared (account_row 1)) ∷ Asked (ops.Get (account_row 1)) ∷ Asked (unlock Shared (account_row 1)) ∷ Noted (Loaded 1 (key_in account 1) ann)
      ∷ plays accounts 3 1000000 body (go var_b) u (knows (ann_one 2 1) 0 []) rs
  unfolding digits is_legal_text whole_of is_number subs.number_in part_in id_in is_legal_node is_legal_sub is_sub_text is_global_name node_text node_cmp key_cmp row_field line_of layout_of data_node marker row_list row_class index_key key_node entry_node entry_list has_legal_entries stale differing child walk joins subscript_of after_of at_node gets sets kills increments orders calls calls_own writes frame edited loosed with_object prop_read is_at_or_below has_several read read_as edits_of load raise deleting delete look lock_keys test_targets kill_entries write save_items save open_object open_text open_id save_object delete_text delete_id next_id member_at method_of with_saved with_loaded with_member read_prop one_side_set slot_set given_back slot_from passed write_prop on_list on_array on_members on_class on_object on_items field.out-Field denote.Hole.Carrier.out
  opens = simp (playing, views, drops) refl

reads : plays accounts 3 1000000 (block opens_later.script) (rest 1000000 opens_later.script 3 var_b) 999990 (knows (ann_one 2 1) 0 []) [] ≡ drop 10 opens_later.sees
unfolding digits is_legal_text whole_of is_number subs.number_in part_in id_in is_legal_node is_legal_sub is_sub_text is_global_name node_text node_cmp key_cmp row_field line_of layout_of data_node marker row_list row_class index_key key_node entry_node entry_list has_legal_entries stale differing child walk joins subscript_of after_of at_node gets sets kills increments orders calls calls_own writes frame edited loosed with_object prop_read is_at_or_below has_several read read_as edits_of load raise deleting delete look lock_keys test_targets kill_entries write save_items save open_object open_text open_id save_object delete_text delete_id next_id member_at method_of with_saved with_loaded with_member read_prop one_side_set slot_set given_back slot_from passed write_prop on_list on_array on_members on_class on_object on_items field.out-Field denote.Hole.Carrier.out
reads = simp (playing, views, drops) refl

pub opens_later_worked : IsWorked opens_later
unfolding frame
opens_later_worked = process-plays accounts 3 1000000 (block opens_later.script) opens_later.replies
    ∙ refused (block opens_later.script) 999996 (drop 3 opens_later.replies) (rest 1000000 opens_later.script 1) quits
    ∙ ap (λ l. take 4 opens_later.sees ++ l) (tells (block opens_later.script) 999994 (drop 3 opens_later.replies) (rest 1000000 opens_later.script 2) quits)
    ∙ ap (λ l. take 6 opens_later.sees ++ l) (opens (block opens_later.script) 999990 [] (rest 1000000 opens_later.script 3) quits ∙ ap (λ l. take 4 (drop 6 opens_later.sees) ++ l) reads)

-- ---- an account that is opened twice

abbrev both_vars : Vars
both_vars = is (codes "a") 1 account ∷ is (codes "b") 1 account ∷ []

opens_both : (body : Block) (u : ℕ) (rs : List Reply) (go quit : Rest)
    → plays accounts 10 1000000 body (runs None 1000000 (command 0 opens_twice.script) [] go quit) (suc (suc (suc (suc u)))) at_first (reply.Granted ∷ ann_row ∷ rs)
    ≡ Asked (lock_counted Exclusive (account_row 1)) ∷ Asked (ops.Get (account_row 1)) ∷ Noted (Loaded 0 (key_in account 1) ann)
    ∷ plays accounts 10 1000000 body (go both_vars) u (knows (ann_one 4 2) 0 []) rs
unfolding digits is_legal_text whole_of is_number subs.number_in part_in id_in is_legal_node is_legal_sub is_sub_text is_global_name node_text node_cmp key_cmp row_field line_of layout_of data_node marker row_list row_class index_key key_node entry_node entry_list has_legal_entries stale differing child walk joins subscript_of after_of at_node gets sets kills increments orders calls calls_own writes frame edited loosed with_object prop_read is_at_or_below has_several read read_as edits_of load raise deleting delete look lock_keys test_targets kill_entries write save_items save open_object open_text open_id save_object delete_text delete_id next_id member_at method_of with_saved with_loaded with_member read_prop one_side_set slot_set given_back slot_from passed write_prop on_list on_array on_members on_class on_object on_items field.out-Field denote.Hole.Carrier.out
opens_both body u rs go quit = simp (playing, views, drops) refl

compares : (body : Block) (u : ℕ) (rs : List Reply) (go quit : Rest)
    → plays accounts 10 1000000 body (runs None 1000000 (command 1 opens_twice.script) both_vars go quit) (suc (suc u)) (knows (ann_one 4 2) 0 []) rs
    ≡ prints (codes "1") ∷ new_line ∷ plays accounts 10 1000000 body (go both_vars) u (knows (ann_one 4 2) 0 []) rs
unfolding digits is_legal_text whole_of is_number subs.number_in part_in id_in is_legal_node is_legal_sub is_sub_text is_global_name node_text node_cmp key_cmp row_field line_of layout_of data_node marker row_list row_class index_key key_node entry_node entry_list has_legal_entries stale differing child walk joins subscript_of after_of at_node gets sets kills increments orders calls calls_own writes frame edited loosed with_object prop_read is_at_or_below has_several read read_as edits_of load raise deleting delete look lock_keys test_targets kill_entries write save_items save open_object open_text open_id save_object delete_text delete_id next_id member_at method_of with_saved with_loaded with_member read_prop one_side_set slot_set given_back slot_from passed write_prop on_list on_array on_members on_class on_object on_items field.out-Field denote.Hole.Carrier.out
compares body u rs go quit = simp (playing, views, items, drops) refl

lets_a_go : (body : Block) (u : ℕ) (rs : List Reply) (go quit : Rest)
    → plays accounts 10 1000000 body (runs None 1000000 (command 2 opens_twice.script) both_vars go quit) (suc u) (knows (ann_one 4 2) 0 []) rs
    ≡ plays accounts 10 1000000 body (go var_b) u (knows (ann_one 4 1) 0 []) rs
unfolding digits is_legal_text whole_of is_number subs.number_in part_in id_in is_legal_node is_legal_sub is_sub_text is_global_name node_text node_cmp key_cmp row_field line_of layout_of data_node marker row_list row_class index_key key_node entry_node entry_list has_legal_entries stale differing child walk joins subscript_of after_of at_node gets sets kills increments orders calls calls_own writes frame edited loosed with_object prop_read is_at_or_below has_several read read_as edits_of load raise deleting delete look lock_keys test_targets kill_entries write save_items save open_object open_text open_id save_object delete_text delete_id next_id member_at method_of with_saved with_loaded with_member read_prop one_side_set slot_set given_back slot_from passed write_prop on_list on_array on_members on_class on_object on_items field.out-Field denote.Hole.Carrier.out
lets_a_go body u rs go quit = simp (playing, views, drops) refl

reads_owner : (body : Block) (u : ℕ) (rs : List Reply) (go quit : Rest)
    → plays accounts 10 1000000 body (runs None 1000000 (command 3 opens_twice.script) var_b go quit) (suc (suc u)) (knows (ann_one 4 1) 0 []) rs
    ≡ prints (codes "Ann") ∷ new_line ∷ plays accounts 10 1000000 body (go var_b) u (knows (ann_one 4 1) 0 []) rs
unfolding digits is_legal_text whole_of is_number subs.number_in part_in id_in is_legal_node is_legal_sub is_sub_text is_global_name node_text node_cmp key_cmp row_field line_of layout_of data_node marker row_list row_class index_key key_node entry_node entry_list has_legal_entries stale differing child walk joins subscript_of after_of at_node gets sets kills increments orders calls calls_own writes frame edited loosed with_object prop_read is_at_or_below has_several read read_as edits_of load raise deleting delete look lock_keys test_targets kill_entries write save_items save open_object open_text open_id save_object delete_text delete_id next_id member_at method_of with_saved with_loaded with_member read_prop one_side_set slot_set given_back slot_from passed write_prop on_list on_array on_members on_class on_object on_items field.out-Field denote.Hole.Carrier.out
reads_owner body u rs go quit = simp (playing, views, drops) refl

lets_b_go : plays accounts 10 1000000 (block opens_twice.script) (rest 1000000 opens_twice.script 4 var_b) 999991 (knows (ann_one 4 1) 0 []) (reply.Done ∷ []) ≡ drop 7 opens_twice.sees
unfolding digits is_legal_text whole_of is_number subs.number_in part_in id_in is_legal_node is_legal_sub is_sub_text is_global_name node_text node_cmp key_cmp row_field line_of layout_of data_node marker row_list row_class index_key key_node entry_node entry_list has_legal_entries stale differing child walk joins subscript_of after_of at_node gets sets kills increments orders calls calls_own writes frame edited loosed with_object prop_read is_at_or_below has_several read read_as edits_of load raise deleting delete look lock_keys test_targets kill_entries write save_items save open_object open_text open_id save_object delete_text delete_id next_id member_at method_of with_saved with_loaded with_member read_prop one_side_set slot_set given_back slot_from passed write_prop on_list on_array on_members on_class on_object on_items field.out-Field denote.Hole.Carrier.out
lets_b_go = simp (playing, views, drops) refl

pub opens_twice_worked : IsWorked opens_twice
unfolding frame
opens_twice_worked = process-plays accounts 10 1000000 (block opens_twice.script) opens_twice.replies
    ∙ opens_both (block opens_twice.script) 999996 (reply.Done ∷ []) (rest 1000000 opens_twice.script 1) quits
    ∙ ap (λ l. take 3 opens_twice.sees ++ l)
    (compares (block opens_twice.script) 999994 (reply.Done ∷ []) (rest 1000000 opens_twice.script 2) quits
    ∙ ap (λ l. prints (codes "1") ∷ new_line ∷ l)
    (lets_a_go (block opens_twice.script) 999993 (reply.Done ∷ []) (rest 1000000 opens_twice.script 3) quits
    ∙ reads_owner (block opens_twice.script) 999991 (reply.Done ∷ []) (rest 1000000 opens_twice.script 4) quits ∙ ap (λ l. prints (codes "Ann") ∷ new_line ∷ l) lets_b_go))
