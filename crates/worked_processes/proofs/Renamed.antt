-- What the worked processes with saves and deletes show, step by step.
use Rattle.std.proofs.Common.{◌≡◌, ℕ, suc, Bool, Option, ap, ◌++◌, refl, ◌∙◌, List, [], ◌∷◌, Some, None, take, drop, true, false, codes}
use Rattle.std.specs.Fmt.{digits}
use Rattle.obj_kinds.specs.Subscript as subs
use Rattle.obj_kinds.specs.Subscript.{whole_of, is_number}
use Rattle.obj_kinds.specs.IdReading.{part_in, id_in}
use Rattle.obj_kinds.specs.NodeText.{node_text}
use Rattle.obj_kinds.specs.Order.{node_cmp}
use Rattle.obj_kinds.specs.Limits.{is_legal_text, is_legal_node, is_legal_sub, is_sub_text, is_global_name}
use Rattle.schema_kinds.specs.declared.record.Field as field
use Rattle.schema_kinds.specs.Worlds.{key_cmp}
use Rattle.record_layout.specs.Items.{row_field}
use Rattle.record_layout.specs.Layout.{line_of, layout_of}
use Rattle.record_layout.specs.Rows.{data_node, marker, row_list}
use Rattle.storage_map.specs.Markers.{row_class}
use Rattle.storage_map.specs.Entries.{index_key, key_node, entry_node, entry_list, has_legal_entries}
use Rattle.storage_map.specs.Changes.{stale, differing}
use Rattle.store_calls.specs.Walks.{child, walk}
use Rattle.os_meaning.specs.Values.{text_value, joins, subscript_of, after_of}
use Rattle.os_meaning.specs.Frames.{Var, Vars, Rest, at_node, gets, sets, kills, increments, orders, calls, calls_own, writes}
use Rattle.os_meaning.specs.Meaning.{frame, runs}
use Rattle.os_meaning.specs.Commands.{leaves}
use Rattle.oref_table.specs.Memory.{edited, loosed, with_object}
use Rattle.obj_shape.specs.Records.{record_of}
use Rattle.obj_props.specs.Properties.{prop_read}
use Rattle.obj_validity.specs.Faults.{root_fits, list_fits, object_fault}
use Rattle.object_calls.specs.Extents.{is_at_or_below, has_several}
use Rattle.object_calls.specs.Reading.{read, read_as}
use Rattle.object_calls.specs.Edits.{edits_of}
use Rattle.object_calls.specs.Loads.{load, raise}
use Rattle.object_calls.specs.Deletes.{deleting, delete}
use Rattle.object_calls.specs.Saves.{look, lock_keys, test_targets, kill_entries, write, save_items, save}
use Rattle.object_calls.specs.Reach.{reached}
use Rattle.object_calls.specs.Memories.{written}
use Rattle.object_calls.specs.ObjectCalls.{open_object, open_text, open_id, save_object, delete_text, delete_id, next_id, member_at}
use Rattle.host_meaning.specs.Methods.{method_of}
use Rattle.object_members.specs.Seeing.{with_saved, with_loaded, with_member, is_marked, fault_of, record_in}
use Rattle.prop_setting.specs.Elements.{slot_set, given_back}
use Rattle.oref_table.specs.Filling.{slot_from, passed}
use Rattle.object_members.specs.Reads.{read_prop}
use Rattle.object_members.specs.Writes.{one_side_set, write_prop}
use Rattle.object_members.specs.Lists.{on_list}
use Rattle.object_members.specs.Arrays.{on_array}
use Rattle.object_members.specs.ManySides.{on_members}
use Rattle.object_members.specs.Members.{on_class, on_object, on_items}
use Rattle.worked_processes.proofs.Drops.{drops}
use Rattle.worked_processes.proofs.Playing.{playing, plays, at_first, process-plays}
use Rattle.obj_kinds.specs.Values.{same_value}
use Rattle.object_calls.proofs.Lists.{list_out, text_out, plain_out, target_out, plain_item, target_item, same_texts, same_lists}
use Rattle.worked_processes.proofs.Views.{views, items}
use Rattle.obj_kinds.specs.declared.op.Reply.{Reply}
use Rattle.os_meaning.specs.Syntax.{Command, Block}
use Rattle.os_meaning.specs.Samples.{block}
use Rattle.worked_processes.specs.Bank.{IsWorked}
use Rattle.obj_kinds.specs.declared.value.Value.TheVariants as value
use Rattle.oref_table.specs.declared.slot.Slot.{Slot}
use Rattle.oref_table.specs.declared.slot.Slot.TheVariants.{Plain, Target}
use Rattle.os_kinds.specs.declared.val.Val.TheVariants.{Ref}
use Rattle.oref_table.specs.Memory.{Object, Memory}
use Rattle.object_calls.specs.Banking.{account, key_in, account_row, row}
use Rattle.object_calls.specs.Asking.{lock_counted, unlock}
use Rattle.object_calls.specs.Shown.{Noted, Asked}
use Rattle.object_calls.specs.LoadSamples.{ann}
use Rattle.store_calls.specs.Calls.{Loaded}
use Rattle.obj_kinds.specs.declared.name.ClassName.{ClassName}
use Rattle.obj_kinds.specs.declared.op.Op.TheVariants as ops
use Rattle.obj_kinds.specs.declared.op.Mode.TheVariants.{Shared}
use Rattle.obj_kinds.specs.declared.op.Reply.TheVariants as reply
use Rattle.worked_processes.specs.Loading.{ann_row}
use Rattle.object_calls.specs.Saves.{Drawn}
use Rattle.object_calls.specs.SaveSamples.{ann7, p1}
use Rattle.host_meaning.specs.Objects.{Known}
use Rattle.object_members.specs.Seeing.{memories}
use Rattle.worked_processes.specs.Bank.{accounts}
use Rattle.worked_processes.specs.Saving.{new_account, saves_new, runs_out, has_no_id, renames, saves_old, p2, saves_second, saves_held}

-- ---- words

abbrev pub account_of : ℕ → Option (List ℕ) → ℕ → Bool → List ℕ → List ℕ → Slot → ℕ → Object
account_of n id level modified owner number next outside = record { number = n; class = account; extent = Some account; id = id; level = level; modified = modified; slots = Plain (value.Str owner) ∷ Plain (value.Str number) ∷ next ∷ []; outside = outside }

abbrev pub memory_of : List Object → ℕ → Memory
memory_of objects last = record { objects = objects; last = last; freed = [] }

abbrev pub knows : Memory → ℕ → List ℕ → Known Memory
knows m level error = record { memory = m; level = level; test = false; last_error = error }

abbrev pub is : List ℕ → ℕ → ClassName → Var
is x n class = record { name = x; value = Ref n class }

abbrev pub quits : Rest
quits = leaves None 0 (text_value [])

-- what is left of a script behind so many commands
abbrev pub rest : ℕ → List Command → ℕ → Rest
rest fuel script n vars = runs None fuel (block (drop n script)) vars quits quits

abbrev pub command : ℕ → List Command → Block
command n script = block (take 1 (drop n script))

-- ---- a new account with a number is made

abbrev pub var_a : Vars
var_a = is (codes "a") 1 account ∷ []

-- the new account, with how many places outside name it
abbrev pub new_one : Bool → List ℕ → List ℕ → ℕ → Memory
new_one modified owner number outside = memory_of (account_of 1 None 2 modified owner number (Target None) outside ∷ []) 1

module _ (tries fuel : ℕ) (body : Block) (u : ℕ) (rs : List Reply) (go quit : Rest) where
  makes : plays accounts tries fuel body (runs None fuel (command 0 new_account) [] go quit) (suc u) at_first rs ≡ plays accounts tries fuel body (go var_a) u (knows (new_one false [] [] 1) 0 []) rs
  unfolding digits is_legal_text whole_of is_number subs.number_in part_in id_in is_legal_node is_legal_sub is_sub_text is_global_name node_text node_cmp key_cmp row_field line_of layout_of data_node marker row_list row_class index_key key_node entry_node entry_list has_legal_entries stale differing child walk joins subscript_of after_of at_node gets sets kills increments orders calls calls_own writes frame edited loosed with_object prop_read is_at_or_below has_several read read_as edits_of load raise deleting delete look lock_keys test_targets kill_entries write save_items save open_object open_text open_id save_object delete_text delete_id next_id member_at method_of with_saved with_loaded with_member read_prop one_side_set slot_set given_back slot_from passed write_prop on_list on_array on_members on_class on_object on_items denote.Hole.Carrier.out
  makes = simp (playing, views, drops) refl

  names : plays accounts tries fuel body (runs None fuel (command 1 new_account) var_a go quit) (suc u) (knows (new_one false [] [] 1) 0 []) rs ≡ plays accounts tries fuel body (go var_a) u (knows (new_one true (codes "Ann") [] 1) 0 []) rs
  unfolding digits is_legal_text whole_of is_number subs.number_in part_in id_in is_legal_node is_legal_sub is_sub_text is_global_name node_text node_cmp key_cmp row_field line_of layout_of data_node marker row_list row_class index_key key_node entry_node entry_list has_legal_entries stale differing child walk joins subscript_of after_of at_node gets sets kills increments orders calls calls_own writes frame edited loosed with_object prop_read is_at_or_below has_several read read_as edits_of load raise deleting delete look lock_keys test_targets kill_entries write save_items save open_object open_text open_id save_object delete_text delete_id next_id member_at method_of with_saved with_loaded with_member read_prop one_side_set slot_set given_back slot_from passed write_prop on_list on_array on_members on_class on_object on_items denote.Hole.Carrier.out
  names = simp (playing, views, drops) refl

  numbers : plays accounts tries fuel body (runs None fuel (command 2 new_account) var_a go quit) (suc u) (knows (new_one true (codes "Ann") [] 1) 0 []) rs ≡ plays accounts tries fuel body (go var_a) u (knows (new_one true (codes "Ann") (codes "7") 1) 0 []) rs
  unfolding digits is_legal_text whole_of is_number subs.number_in part_in id_in is_legal_node is_legal_sub is_sub_text is_global_name node_text node_cmp key_cmp row_field line_of layout_of data_node marker row_list row_class index_key key_node entry_node entry_list has_legal_entries stale differing child walk joins subscript_of after_of at_node gets sets kills increments orders calls calls_own writes frame edited loosed with_object prop_read is_at_or_below has_several read read_as edits_of load raise deleting delete look lock_keys test_targets kill_entries write save_items save open_object open_text open_id save_object delete_text delete_id next_id member_at method_of with_saved with_loaded with_member read_prop one_side_set slot_set given_back slot_from passed write_prop on_list on_array on_members on_class on_object on_items denote.Hole.Carrier.out
  numbers = simp (playing, views, drops) refl

made : (tries fuel u : ℕ) (rs : List Reply) → plays accounts tries fuel (block new_account) (rest fuel new_account 0 []) (suc (suc (suc u))) at_first rs
    ≡ plays accounts tries fuel (block new_account) (rest fuel new_account 3 var_a) u (knows (new_one true (codes "Ann") (codes "7") 1) 0 []) rs
made tries fuel u rs =
    makes tries fuel (block new_account) (suc (suc u)) rs (rest fuel new_account 1) quits ∙ names tries fuel (block new_account) (suc u) rs (rest fuel new_account 2) quits
    ∙ numbers tries fuel (block new_account) u rs (rest fuel new_account 3) quits

-- ---- and saved: it alone is written, it breaks no rule, and this is its record

new_written : written (memories accounts) (new_one true (codes "Ann") (codes "7") 2) 1 ≡ 1 ∷ []
unfolding digits is_legal_text whole_of is_number subs.number_in part_in id_in is_legal_node is_legal_sub is_sub_text is_global_name node_text node_cmp key_cmp row_field line_of layout_of data_node marker row_list row_class index_key key_node entry_node entry_list has_legal_entries stale differing child walk joins subscript_of after_of at_node gets sets kills increments orders calls calls_own writes frame edited loosed with_object record_of prop_read root_fits list_fits object_fault is_at_or_below has_several read read_as edits_of load raise deleting delete look lock_keys test_targets kill_entries write save_items save reached written open_object open_text open_id save_object delete_text delete_id next_id member_at method_of with_saved with_loaded with_member is_marked fault_of record_in read_prop one_side_set slot_set given_back slot_from passed write_prop on_list on_array on_members on_class on_object on_items denote.Hole.Carrier.out
new_written = refl

new_fault : fault_of accounts (new_one true (codes "Ann") (codes "7") 2) 1 ≡ None
unfolding digits is_legal_text whole_of is_number subs.number_in part_in id_in is_legal_node is_legal_sub is_sub_text is_global_name node_text node_cmp key_cmp row_field line_of layout_of data_node marker row_list row_class index_key key_node entry_node entry_list has_legal_entries stale differing child walk joins subscript_of after_of at_node gets sets kills increments orders calls calls_own writes frame edited loosed with_object record_of prop_read root_fits list_fits object_fault is_at_or_below has_several read read_as edits_of load raise deleting delete look lock_keys test_targets kill_entries write save_items save reached written open_object open_text open_id save_object delete_text delete_id next_id member_at method_of with_saved with_loaded with_member is_marked fault_of record_in read_prop one_side_set slot_set given_back slot_from passed write_prop on_list on_array on_members on_class on_object on_items denote.Hole.Carrier.out
new_fault = simp (views, items) refl

new_record : (drawn : Drawn) → record_in accounts (new_one true (codes "Ann") (codes "7") 2) drawn 1 ≡ ann7
unfolding digits is_legal_text whole_of is_number subs.number_in part_in id_in is_legal_node is_legal_sub is_sub_text is_global_name node_text node_cmp key_cmp row_field line_of layout_of data_node marker row_list row_class index_key key_node entry_node entry_list has_legal_entries stale differing child walk joins subscript_of after_of at_node gets sets kills increments orders calls calls_own writes frame edited loosed with_object record_of prop_read root_fits list_fits object_fault is_at_or_below has_several read read_as edits_of load raise deleting delete look lock_keys test_targets kill_entries write save_items save reached written open_object open_text open_id save_object delete_text delete_id next_id member_at method_of with_saved with_loaded with_member is_marked fault_of record_in read_prop one_side_set slot_set given_back slot_from passed write_prop on_list on_array on_members on_class on_object on_items denote.Hole.Carrier.out
new_record drawn = simp views refl

ruleset new_facts = (new_written, new_fault, new_record)

new_saved : plays accounts 10 1000000 (block new_account) (rest 1000000 new_account 3 var_a) 999997 (knows (new_one true (codes "Ann") (codes "7") 1) 0 []) saves_new.replies ≡ saves_new.sees
unfolding digits is_legal_text whole_of is_number subs.number_in part_in id_in is_legal_node is_legal_sub is_sub_text is_global_name node_text node_cmp key_cmp row_field line_of layout_of data_node marker row_list row_class index_key key_node entry_node entry_list has_legal_entries stale differing child walk joins subscript_of after_of at_node gets sets kills increments orders calls calls_own writes frame edited loosed with_object prop_read is_at_or_below has_several read read_as edits_of load raise deleting delete look lock_keys test_targets kill_entries write save_items save open_object open_text open_id save_object delete_text delete_id next_id member_at method_of with_saved with_loaded with_member read_prop one_side_set slot_set given_back slot_from passed write_prop on_list on_array on_members on_class on_object on_items field.out-Field denote.Hole.Carrier.out
new_saved = simp (playing, views, items, drops, new_facts) refl

pub saves_new_worked : IsWorked saves_new
unfolding frame
saves_new_worked = process-plays accounts 10 1000000 (block new_account) saves_new.replies ∙ made 10 1000000 999997 saves_new.replies ∙ new_saved

new_stopped : plays accounts 10 11 (block new_account) (rest 11 new_account 3 var_a) 8 (knows (new_one true (codes "Ann") (codes "7") 1) 0 []) runs_out.replies ≡ runs_out.sees
unfolding digits is_legal_text whole_of is_number subs.number_in part_in id_in is_legal_node is_legal_sub is_sub_text is_global_name node_text node_cmp key_cmp row_field line_of layout_of data_node marker row_list row_class index_key key_node entry_node entry_list has_legal_entries stale differing child walk joins subscript_of after_of at_node gets sets kills increments orders calls calls_own writes frame edited loosed with_object prop_read is_at_or_below has_several read read_as edits_of load raise deleting delete look lock_keys test_targets kill_entries write save_items save open_object open_text open_id save_object delete_text delete_id next_id member_at method_of with_saved with_loaded with_member read_prop one_side_set slot_set given_back slot_from passed write_prop on_list on_array on_members on_class on_object on_items field.out-Field denote.Hole.Carrier.out
new_stopped = simp (playing, views, items, drops, new_facts) refl

pub runs_out_worked : IsWorked runs_out
unfolding frame
runs_out_worked = process-plays accounts 10 11 (block new_account) runs_out.replies ∙ made 10 11 8 runs_out.replies ∙ new_stopped

new_refused : plays accounts 10 1000000 (block new_account) (rest 1000000 new_account 3 var_a) 999997 (knows (new_one true (codes "Ann") (codes "7") 1) 0 []) has_no_id.replies ≡ has_no_id.sees
unfolding digits is_legal_text whole_of is_number subs.number_in part_in id_in is_legal_node is_legal_sub is_sub_text is_global_name node_text node_cmp key_cmp row_field line_of layout_of data_node marker row_list row_class index_key key_node entry_node entry_list has_legal_entries stale differing child walk joins subscript_of after_of at_node gets sets kills increments orders calls calls_own writes frame edited loosed with_object prop_read is_at_or_below has_several read read_as edits_of load raise deleting delete look lock_keys test_targets kill_entries write save_items save open_object open_text open_id save_object delete_text delete_id next_id member_at method_of with_saved with_loaded with_member read_prop one_side_set slot_set given_back slot_from passed write_prop on_list on_array on_members on_class on_object on_items field.out-Field denote.Hole.Carrier.out
new_refused = simp (playing, views, items, drops, new_facts) refl

pub has_no_id_worked : IsWorked has_no_id
unfolding frame
has_no_id_worked = process-plays accounts 10 1000000 (block new_account) has_no_id.replies ∙ made 10 1000000 999997 has_no_id.replies ∙ new_refused

-- ---- an account is opened, renamed and saved

abbrev old_one : ℕ → Bool → List ℕ → ℕ → Memory
old_one level modified owner outside = memory_of (account_of 1 (Some (1 ∷ [])) level modified owner (codes "7") (Target None) outside ∷ []) 1

opens : (tries fuel : ℕ) (body : Block) (owner : List ℕ) (u : ℕ) (rs : List Reply) (go quit : Rest)
    → plays accounts (suc tries) fuel body (runs None fuel (command 0 (renames owner)) [] go quit) (suc (suc (suc (suc u)))) at_first (reply.Granted ∷ ann_row ∷ reply.Done ∷ rs)
    ≡ Asked (lock_counted Shared (account_row 1)) ∷ Asked (ops.Get (account_row 1)) ∷ Asked (unlock Shared (account_row 1)) ∷ Noted (Loaded 1 (key_in account 1) ann)
    ∷ plays accounts (suc tries) fuel body (go var_a) u (knows (old_one 2 false (codes "Ann") 1) 0 []) rs
unfolding digits is_legal_text whole_of is_number subs.number_in part_in id_in is_legal_node is_legal_sub is_sub_text is_global_name node_text node_cmp key_cmp row_field line_of layout_of data_node marker row_list row_class index_key key_node entry_node entry_list has_legal_entries stale differing child walk joins subscript_of after_of at_node gets sets kills increments orders calls calls_own writes frame edited loosed with_object prop_read is_at_or_below has_several read read_as edits_of load raise deleting delete look lock_keys test_targets kill_entries write save_items save open_object open_text open_id save_object delete_text delete_id next_id member_at method_of with_saved with_loaded with_member read_prop one_side_set slot_set given_back slot_from passed write_prop on_list on_array on_members on_class on_object on_items field.out-Field denote.Hole.Carrier.out
opens tries fuel body owner u rs go quit = simp (playing, views, drops) refl

renamed : (tries fuel : ℕ) (body : Block) (owner : List ℕ) → is_legal_text owner ≡ true → (level : ℕ) (u : ℕ) (rs : List Reply) (go quit : Rest)
    → plays accounts tries fuel body (runs None fuel (command 1 (renames owner)) var_a go quit) (suc u) (knows (old_one level false (codes "Ann") 1) 0 []) rs
    ≡ plays accounts tries fuel body (go var_a) u (knows (old_one level true owner 1) 0 []) rs
unfolding digits whole_of is_number subs.number_in part_in id_in is_legal_node is_legal_sub is_sub_text is_global_name node_text node_cmp key_cmp row_field line_of layout_of data_node marker row_list row_class index_key key_node entry_node entry_list has_legal_entries stale differing child walk joins subscript_of after_of at_node gets sets kills increments orders calls calls_own writes frame edited loosed with_object prop_read is_at_or_below has_several read read_as edits_of load raise deleting delete look lock_keys test_targets kill_entries write save_items save open_object open_text open_id save_object delete_text delete_id next_id member_at method_of with_saved with_loaded with_member read_prop one_side_set slot_set given_back slot_from passed write_prop on_list on_array on_members on_class on_object on_items denote.Hole.Carrier.out
renamed tries fuel body owner legal level u rs go quit = simp (playing, views, drops) (rw legal (simp (playing, views, drops) refl))

old_written : (level : ℕ) → written (memories accounts) (old_one level true (codes "P1") 2) 1 ≡ 1 ∷ []
unfolding digits is_legal_text whole_of is_number subs.number_in part_in id_in is_legal_node is_legal_sub is_sub_text is_global_name node_text node_cmp key_cmp row_field line_of layout_of data_node marker row_list row_class index_key key_node entry_node entry_list has_legal_entries stale differing child walk joins subscript_of after_of at_node gets sets kills increments orders calls calls_own writes frame edited loosed with_object record_of prop_read root_fits list_fits object_fault is_at_or_below has_several read read_as edits_of load raise deleting delete look lock_keys test_targets kill_entries write save_items save reached written open_object open_text open_id save_object delete_text delete_id next_id member_at method_of with_saved with_loaded with_member is_marked fault_of record_in read_prop one_side_set slot_set given_back slot_from passed write_prop on_list on_array on_members on_class on_object on_items denote.Hole.Carrier.out
old_written level = refl

old_fault : (level : ℕ) → fault_of accounts (old_one level true (codes "P1") 2) 1 ≡ None
unfolding digits is_legal_text whole_of is_number subs.number_in part_in id_in is_legal_node is_legal_sub is_sub_text is_global_name node_text node_cmp key_cmp row_field line_of layout_of data_node marker row_list row_class index_key key_node entry_node entry_list has_legal_entries stale differing child walk joins subscript_of after_of at_node gets sets kills increments orders calls calls_own writes frame edited loosed with_object record_of prop_read root_fits list_fits object_fault is_at_or_below has_several read read_as edits_of load raise deleting delete look lock_keys test_targets kill_entries write save_items save reached written open_object open_text open_id save_object delete_text delete_id next_id member_at method_of with_saved with_loaded with_member is_marked fault_of record_in read_prop one_side_set slot_set given_back slot_from passed write_prop on_list on_array on_members on_class on_object on_items denote.Hole.Carrier.out
old_fault level = simp (views, items) refl

old_record : (level : ℕ) (drawn : Drawn) → record_in accounts (old_one level true (codes "P1") 2) drawn 1 ≡ p1
unfolding digits is_legal_text whole_of is_number subs.number_in part_in id_in is_legal_node is_legal_sub is_sub_text is_global_name node_text node_cmp key_cmp row_field line_of layout_of data_node marker row_list row_class index_key key_node entry_node entry_list has_legal_entries stale differing child walk joins subscript_of after_of at_node gets sets kills increments orders calls calls_own writes frame edited loosed with_object record_of prop_read root_fits list_fits object_fault is_at_or_below has_several read read_as edits_of load raise deleting delete look lock_keys test_targets kill_entries write save_items save reached written open_object open_text open_id save_object delete_text delete_id next_id member_at method_of with_saved with_loaded with_member is_marked fault_of record_in read_prop one_side_set slot_set given_back slot_from passed write_prop on_list on_array on_members on_class on_object on_items denote.Hole.Carrier.out
old_record level drawn = simp views refl

ruleset old_facts = (old_written, old_fault, old_record)

-- what the save writes: the row, with another owner
ann_rows : row_list accounts (key_in account 1) ann ≡ (account_row 1, row ([] ∷ codes "Ann" ∷ codes "7" ∷ [] ∷ [])) ∷ []
unfolding digits is_legal_text whole_of is_number subs.number_in line_of layout_of data_node marker row_list
ann_rows = simp (plain_out, target_out, plain_item, target_item) refl

p1_rows : row_list accounts (key_in account 1) p1 ≡ (account_row 1, row ([] ∷ codes "P1" ∷ codes "7" ∷ [] ∷ [])) ∷ []
unfolding digits is_legal_text whole_of is_number subs.number_in line_of layout_of data_node marker row_list
p1_rows = simp (plain_out, target_out, plain_item, target_item) refl

p1_differs : same_value (row ([] ∷ codes "Ann" ∷ codes "7" ∷ [] ∷ [])) (row ([] ∷ codes "P1" ∷ codes "7" ∷ [] ∷ [])) ≡ false
p1_differs = simp (same_lists) (simp (list_out) (simp (same_texts) (simp (text_out) refl)))

p1_edits : edits_of accounts (key_in account 1) (Some ann) (Some p1)
    ≡ record { entry_kills = []; row_kills = []; row_sets = (account_row 1, row ([] ∷ codes "P1" ∷ codes "7" ∷ [] ∷ [])) ∷ []; entry_sets = [] }
unfolding digits is_legal_text whole_of is_number subs.number_in node_cmp index_key key_node entry_node entry_list stale differing edits_of field.out-Field denote.Hole.Carrier.out
p1_edits = simp (ann_rows, p1_rows) (rw p1_differs (simp (same_texts) (simp (text_out) refl)))

old_saved : plays accounts 10 1000000 (block (renames (codes "P1"))) (rest 1000000 (renames (codes "P1")) 2 var_a) 999995 (knows (old_one 2 true (codes "P1") 1) 0 []) (drop 3 saves_old.replies) ≡ drop 4 saves_old.sees
unfolding digits is_legal_text whole_of is_number subs.number_in part_in id_in is_legal_node is_legal_sub is_sub_text is_global_name node_text node_cmp key_cmp row_field line_of layout_of data_node marker row_class index_key key_node entry_node entry_list has_legal_entries stale differing child walk joins subscript_of after_of at_node gets sets kills increments orders calls calls_own writes frame edited loosed with_object prop_read is_at_or_below has_several read read_as load raise deleting delete look lock_keys test_targets kill_entries write save_items save open_object open_text open_id save_object delete_text delete_id next_id member_at method_of with_saved with_loaded with_member read_prop one_side_set slot_set given_back slot_from passed write_prop on_list on_array on_members on_class on_object on_items field.out-Field denote.Hole.Carrier.out
old_saved = simp (playing, views, old_facts) (rw p1_edits (simp (playing, views, drops) refl))

pub saves_old_worked : IsWorked saves_old
unfolding frame is_legal_text
saves_old_worked = process-plays accounts 10 1000000 (block (renames (codes "P1"))) saves_old.replies
    ∙ opens 9 1000000 (block (renames (codes "P1"))) (codes "P1") 999996 (drop 3 saves_old.replies) (rest 1000000 (renames (codes "P1")) 1) quits
    ∙ ap (λ l. take 4 saves_old.sees ++ l) (renamed 10 1000000 (block (renames (codes "P1"))) (codes "P1") refl 2 999995 (drop 3 saves_old.replies) (rest 1000000 (renames (codes "P1")) 2) quits ∙ old_saved)

-- ---- beside it, where the row is held three times, and has the first one's owner then

second_written : written (memories accounts) (old_one 2 true (codes "P2") 2) 1 ≡ 1 ∷ []
unfolding digits is_legal_text whole_of is_number subs.number_in part_in id_in is_legal_node is_legal_sub is_sub_text is_global_name node_text node_cmp key_cmp row_field line_of layout_of data_node marker row_list row_class index_key key_node entry_node entry_list has_legal_entries stale differing child walk joins subscript_of after_of at_node gets sets kills increments orders calls calls_own writes frame edited loosed with_object record_of prop_read root_fits list_fits object_fault is_at_or_below has_several read read_as edits_of load raise deleting delete look lock_keys test_targets kill_entries write save_items save reached written open_object open_text open_id save_object delete_text delete_id next_id member_at method_of with_saved with_loaded with_member is_marked fault_of record_in read_prop one_side_set slot_set given_back slot_from passed write_prop on_list on_array on_members on_class on_object on_items denote.Hole.Carrier.out
second_written = refl

second_fault : fault_of accounts (old_one 2 true (codes "P2") 2) 1 ≡ None
unfolding digits is_legal_text whole_of is_number subs.number_in part_in id_in is_legal_node is_legal_sub is_sub_text is_global_name node_text node_cmp key_cmp row_field line_of layout_of data_node marker row_list row_class index_key key_node entry_node entry_list has_legal_entries stale differing child walk joins subscript_of after_of at_node gets sets kills increments orders calls calls_own writes frame edited loosed with_object record_of prop_read root_fits list_fits object_fault is_at_or_below has_several read read_as edits_of load raise deleting delete look lock_keys test_targets kill_entries write save_items save reached written open_object open_text open_id save_object delete_text delete_id next_id member_at method_of with_saved with_loaded with_member is_marked fault_of record_in read_prop one_side_set slot_set given_back slot_from passed write_prop on_list on_array on_members on_class on_object on_items denote.Hole.Carrier.out
second_fault = simp (views, items) refl

second_record : (drawn : Drawn) → record_in accounts (old_one 2 true (codes "P2") 2) drawn 1 ≡ p2
unfolding digits is_legal_text whole_of is_number subs.number_in part_in id_in is_legal_node is_legal_sub is_sub_text is_global_name node_text node_cmp key_cmp row_field line_of layout_of data_node marker row_list row_class index_key key_node entry_node entry_list has_legal_entries stale differing child walk joins subscript_of after_of at_node gets sets kills increments orders calls calls_own writes frame edited loosed with_object record_of prop_read root_fits list_fits object_fault is_at_or_below has_several read read_as edits_of load raise deleting delete look lock_keys test_targets kill_entries write save_items save reached written open_object open_text open_id save_object delete_text delete_id next_id member_at method_of with_saved with_loaded with_member is_marked fault_of record_in read_prop one_side_set slot_set given_back slot_from passed write_prop on_list on_array on_members on_class on_object on_items denote.Hole.Carrier.out
second_record drawn = simp views refl

ruleset second_facts = (second_written, second_fault, second_record)

p2_rows : row_list accounts (key_in account 1) p2 ≡ (account_row 1, row ([] ∷ codes "P2" ∷ codes "7" ∷ [] ∷ [])) ∷ []
unfolding digits is_legal_text whole_of is_number subs.number_in line_of layout_of data_node marker row_list
p2_rows = simp (plain_out, target_out, plain_item, target_item) refl

p2_differs : same_value (row ([] ∷ codes "P1" ∷ codes "7" ∷ [] ∷ [])) (row ([] ∷ codes "P2" ∷ codes "7" ∷ [] ∷ [])) ≡ false
p2_differs = simp (same_lists) (simp (list_out) (simp (same_texts) (simp (text_out) refl)))

p2_edits : edits_of accounts (key_in account 1) (Some p1) (Some p2)
    ≡ record { entry_kills = []; row_kills = []; row_sets = (account_row 1, row ([] ∷ codes "P2" ∷ codes "7" ∷ [] ∷ [])) ∷ []; entry_sets = [] }
unfolding digits is_legal_text whole_of is_number subs.number_in node_cmp index_key key_node entry_node entry_list stale differing edits_of field.out-Field denote.Hole.Carrier.out
p2_edits = simp (p1_rows, p2_rows) (rw p2_differs (simp (same_texts) (simp (text_out) refl)))

second_saved : plays accounts 10 1000000 (block (renames (codes "P2"))) (rest 1000000 (renames (codes "P2")) 2 var_a) 999995 (knows (old_one 2 true (codes "P2") 1) 0 []) (drop 3 saves_second.replies) ≡ drop 4 saves_second.sees
unfolding digits is_legal_text whole_of is_number subs.number_in part_in id_in is_legal_node is_legal_sub is_sub_text is_global_name node_text node_cmp key_cmp row_field line_of layout_of data_node marker row_class index_key key_node entry_node entry_list has_legal_entries stale differing child walk joins subscript_of after_of at_node gets sets kills increments orders calls calls_own writes frame edited loosed with_object prop_read is_at_or_below has_several read read_as load raise deleting delete look lock_keys test_targets kill_entries write save_items save open_object open_text open_id save_object delete_text delete_id next_id member_at method_of with_saved with_loaded with_member read_prop one_side_set slot_set given_back slot_from passed write_prop on_list on_array on_members on_class on_object on_items field.out-Field denote.Hole.Carrier.out
second_saved = simp (playing, views, second_facts) (rw p2_edits (simp (playing, views, drops) refl))

pub saves_second_worked : IsWorked saves_second
unfolding frame is_legal_text
saves_second_worked = process-plays accounts 10 1000000 (block (renames (codes "P2"))) saves_second.replies
    ∙ opens 9 1000000 (block (renames (codes "P2"))) (codes "P2") 999996 (drop 3 saves_second.replies) (rest 1000000 (renames (codes "P2")) 1) quits
    ∙ ap (λ l. take 4 saves_second.sees ++ l) (renamed 10 1000000 (block (renames (codes "P2"))) (codes "P2") refl 2 999995 (drop 3 saves_second.replies) (rest 1000000 (renames (codes "P2")) 2) quits ∙ second_saved)

-- ---- an account is opened at level 3, and its row is held by another process at that level

opens_kept : (body : Block) (u : ℕ) (rs : List Reply) (go quit : Rest)
    → plays accounts 2 1000000 body (runs None 1000000 (command 0 saves_held.script) [] go quit) (suc (suc (suc u))) at_first (reply.Granted ∷ ann_row ∷ rs)
    ≡ Asked (lock_counted Shared (account_row 1)) ∷ Asked (ops.Get (account_row 1)) ∷ Noted (Loaded 0 (key_in account 1) ann)
    ∷ plays accounts 2 1000000 body (go var_a) u (knows (old_one 3 false (codes "Ann") 1) 0 []) rs
unfolding digits is_legal_text whole_of is_number subs.number_in part_in id_in is_legal_node is_legal_sub is_sub_text is_global_name node_text node_cmp key_cmp row_field line_of layout_of data_node marker row_list row_class index_key key_node entry_node entry_list has_legal_entries stale differing child walk joins subscript_of after_of at_node gets sets kills increments orders calls calls_own writes frame edited loosed with_object prop_read is_at_or_below has_several read read_as edits_of load raise deleting delete look lock_keys test_targets kill_entries write save_items save open_object open_text open_id save_object delete_text delete_id next_id member_at method_of with_saved with_loaded with_member read_prop one_side_set slot_set given_back slot_from passed write_prop on_list on_array on_members on_class on_object on_items field.out-Field denote.Hole.Carrier.out
opens_kept body u rs go quit = simp (playing, views, drops) refl

held_refused : plays accounts 2 1000000 (block saves_held.script) (rest 1000000 saves_held.script 2 var_a) 999996 (knows (old_one 3 true (codes "P1") 1) 0 []) (drop 2 saves_held.replies) ≡ drop 3 saves_held.sees
unfolding digits is_legal_text whole_of is_number subs.number_in part_in id_in is_legal_node is_legal_sub is_sub_text is_global_name node_text node_cmp key_cmp row_field line_of layout_of data_node marker row_class index_key key_node entry_node entry_list has_legal_entries stale differing child walk joins subscript_of after_of at_node gets sets kills increments orders calls calls_own writes frame edited loosed with_object prop_read is_at_or_below has_several read read_as load raise deleting delete look lock_keys test_targets kill_entries write save_items save open_object open_text open_id save_object delete_text delete_id next_id member_at method_of with_saved with_loaded with_member read_prop one_side_set slot_set given_back slot_from passed write_prop on_list on_array on_members on_class on_object on_items field.out-Field denote.Hole.Carrier.out
held_refused = simp (playing, views, drops, old_facts) refl

pub saves_held_worked : IsWorked saves_held
unfolding frame is_legal_text
saves_held_worked = process-plays accounts 2 1000000 (block saves_held.script) saves_held.replies
    ∙ opens_kept (block saves_held.script) 999997 (drop 2 saves_held.replies) (rest 1000000 saves_held.script 1) quits
    ∙ ap (λ l. take 3 saves_held.sees ++ l) (renamed 2 1000000 (block saves_held.script) (codes "P1") refl 3 999996 (drop 2 saves_held.replies) (rest 1000000 saves_held.script 2) quits ∙ held_refused)
