-- What the worked saves show, by computation.
use Rattle.std.proofs.Common.{◌≡◌, refl, ℕ, zero, suc, List, [], ◌∷◌, codes, false, Some}
use Rattle.std.specs.Fmt.{digits}
use Rattle.schema_kinds.specs.declared.record.Field as field
use Rattle.obj_kinds.specs.Values.{same_value}
use Rattle.obj_kinds.specs.Subscript as subs
use Rattle.obj_kinds.specs.Subscript.{whole_of, is_number}
use Rattle.obj_kinds.specs.IdReading.{part_in, id_in}
use Rattle.obj_kinds.specs.Order.{node_cmp}
use Rattle.schema_kinds.specs.Worlds.{key_cmp}
use Rattle.obj_kinds.specs.Limits.{is_legal_node, is_legal_sub, is_sub_text, is_global_name}
use Rattle.record_layout.specs.Items.{row_field}
use Rattle.record_layout.specs.Layout.{line_of, layout_of}
use Rattle.record_layout.specs.Rows.{data_node, marker, row_list}
use Rattle.storage_map.specs.Markers.{row_class}
use Rattle.storage_map.specs.Entries.{index_key, key_node, entry_node, entry_list}
use Rattle.storage_map.specs.Changes.{stale, differing}
use Rattle.storage_map.specs.Entries.{has_legal_entries}
use Rattle.store_calls.specs.Walks.{child, walk}
use Rattle.object_calls.proofs.Lists.{list_out, text_out, plain_out, target_out, map_out, plain_item, target_item, same_texts, same_lists}
use Rattle.object_calls.specs.Extents.{is_at_or_below}
use Rattle.object_calls.specs.Reading.{read, read_as}
use Rattle.object_calls.specs.Edits.{edits_of}
use Rattle.object_calls.specs.Saves.{look, lock_keys, test_targets, kill_entries, write, save_items, save}
use Rattle.object_calls.specs.SaveSamples.{SaveSample, IsSaveSeen, saves, AreSavesSeen, none_live, ann7, p1, saver5}
use Rattle.object_calls.specs.Banking.{bank, account, key_in, num, word, node, account_row, row}
use Rattle.obj_kinds.specs.declared.value.Value.TheVariants as value
use Rattle.object_calls.specs.Members.{next_member}
use Rattle.object_calls.specs.MemberSamples.{walks, AreMembersSeen}

-- the sample at that place
abbrev sample : ℕ → List SaveSample → SaveSample
sample n [] = record { is_live = none_live; objects = []; replies = []; sees = [] }
sample zero (x ∷ xs) = x
sample (suc n) (x ∷ xs) = sample n xs

new_account : IsSaveSeen (sample 0 saves)
unfolding digits whole_of is_number subs.number_in part_in id_in node_cmp key_cmp is_legal_node is_legal_sub is_sub_text is_global_name row_field line_of layout_of data_node marker row_list row_class index_key key_node entry_node entry_list stale differing has_legal_entries child walk is_at_or_below read read_as edits_of look lock_keys test_targets kill_entries write save_items save field.out-Field denote.Hole.Carrier.out
new_account = simp (plain_item, target_item) refl

new_ring : IsSaveSeen (sample 1 saves)
unfolding digits whole_of is_number subs.number_in part_in id_in node_cmp key_cmp is_legal_node is_legal_sub is_sub_text is_global_name row_field line_of layout_of data_node marker row_list row_class index_key key_node entry_node entry_list stale differing has_legal_entries child walk is_at_or_below read read_as edits_of look lock_keys test_targets kill_entries write save_items save field.out-Field denote.Hole.Carrier.out
new_ring = simp (plain_item, target_item) refl

ann_rows : row_list bank (key_in account 1) ann7 ≡ (account_row 1, row ([] ∷ codes "Ann" ∷ codes "7" ∷ [] ∷ [])) ∷ []
unfolding digits whole_of is_number subs.number_in line_of layout_of data_node marker row_list
ann_rows = simp (plain_out, target_out, plain_item, target_item) refl

p1_rows : row_list bank (key_in account 1) p1 ≡ (account_row 1, row ([] ∷ codes "P1" ∷ codes "7" ∷ [] ∷ [])) ∷ []
unfolding digits whole_of is_number subs.number_in line_of layout_of data_node marker row_list
p1_rows = simp (plain_out, target_out, plain_item, target_item) refl

p1_differs : same_value (row ([] ∷ codes "Ann" ∷ codes "7" ∷ [] ∷ [])) (row ([] ∷ codes "P1" ∷ codes "7" ∷ [] ∷ [])) ≡ false
p1_differs = simp (same_lists) (simp (list_out) (simp (same_texts) (simp (text_out) refl)))

p1_edits : edits_of bank (key_in account 1) (Some ann7) (Some p1) ≡ record { entry_kills = []; row_kills = []; row_sets = (account_row 1, row ([] ∷ codes "P1" ∷ codes "7" ∷ [] ∷ [])) ∷ []; entry_sets = [] }
unfolding digits whole_of is_number subs.number_in node_cmp index_key key_node entry_node entry_list stale differing edits_of field.out-Field denote.Hole.Carrier.out
p1_edits = simp (ann_rows, p1_rows) (rw p1_differs (simp (same_texts) (simp (text_out) refl)))

old_account : IsSaveSeen (sample 2 saves)
unfolding digits whole_of is_number subs.number_in part_in id_in node_cmp key_cmp is_legal_node is_legal_sub is_sub_text is_global_name row_field line_of layout_of data_node marker row_class index_key key_node entry_node entry_list has_legal_entries child walk is_at_or_below read read_as look lock_keys test_targets kill_entries write save_items save field.out-Field denote.Hole.Carrier.out
old_account = simp (list_out, text_out) (rw p1_edits refl)

taken_number : IsSaveSeen (sample 3 saves)
unfolding digits whole_of is_number subs.number_in part_in id_in node_cmp key_cmp is_legal_node is_legal_sub is_sub_text is_global_name row_field line_of layout_of data_node marker row_list row_class index_key key_node entry_node entry_list stale differing has_legal_entries child walk is_at_or_below read read_as edits_of look lock_keys test_targets kill_entries write save_items save field.out-Field denote.Hole.Carrier.out
taken_number = simp (plain_item, target_item) refl

swapped_numbers : IsSaveSeen (sample 4 saves)
unfolding digits whole_of is_number subs.number_in part_in id_in node_cmp key_cmp is_legal_node is_legal_sub is_sub_text is_global_name row_field line_of layout_of data_node marker row_list row_class index_key key_node entry_node entry_list stale differing has_legal_entries child walk is_at_or_below read read_as edits_of look lock_keys test_targets kill_entries write save_items save field.out-Field denote.Hole.Carrier.out
swapped_numbers = simp (list_out, text_out) (simp (plain_item, target_item) (simp (same_lists) (simp (list_out, same_texts) (simp (text_out) refl))))

saver_rows : row_list bank (key_in account 1) saver5 ≡
    (account_row 1, row (codes "~Bank.Saver~" ∷ codes "Ann" ∷ [] ∷ [] ∷ []))
    ∷ (node (codes "Bank.AccountD") (num 1 ∷ word (codes "Saver") ∷ []), row (codes "5" ∷ []))
    ∷ (node (codes "Bank.AccountD") (num 1 ∷ word (codes "Notes") ∷ word (codes "k") ∷ []), value.Str (codes "v")) ∷ []
unfolding digits whole_of is_number subs.number_in line_of layout_of data_node marker row_list
saver_rows = simp (plain_out, target_out, map_out, plain_item, target_item) refl

new_saver : IsSaveSeen (sample 5 saves)
unfolding digits whole_of is_number subs.number_in part_in id_in node_cmp key_cmp is_legal_node is_legal_sub is_sub_text is_global_name row_field line_of layout_of data_node marker row_class index_key key_node entry_node entry_list stale differing has_legal_entries child walk is_at_or_below read read_as edits_of look lock_keys test_targets kill_entries write save_items save field.out-Field denote.Hole.Carrier.out
new_saver = rw saver_rows refl

moved_clerk : IsSaveSeen (sample 6 saves)
unfolding digits whole_of is_number subs.number_in part_in id_in node_cmp key_cmp is_legal_node is_legal_sub is_sub_text is_global_name row_field line_of layout_of data_node marker row_list row_class index_key key_node entry_node entry_list stale differing has_legal_entries child walk is_at_or_below read read_as edits_of look lock_keys test_targets kill_entries write save_items save field.out-Field denote.Hole.Carrier.out
moved_clerk = simp (list_out, text_out) (simp (plain_item, target_item) (simp (same_lists) (simp (list_out, same_texts) (simp (text_out) refl))))

no_branch : IsSaveSeen (sample 7 saves)
unfolding digits whole_of is_number subs.number_in part_in id_in node_cmp key_cmp is_legal_node is_legal_sub is_sub_text is_global_name row_field line_of layout_of data_node marker row_list row_class index_key key_node entry_node entry_list stale differing has_legal_entries child walk is_at_or_below read read_as edits_of look lock_keys test_targets kill_entries write save_items save field.out-Field denote.Hole.Carrier.out
no_branch = refl

gone_account : IsSaveSeen (sample 8 saves)
unfolding digits whole_of is_number subs.number_in part_in id_in node_cmp key_cmp is_legal_node is_legal_sub is_sub_text is_global_name row_field line_of layout_of data_node marker row_list row_class index_key key_node entry_node entry_list stale differing has_legal_entries child walk is_at_or_below read read_as edits_of look lock_keys test_targets kill_entries write save_items save field.out-Field denote.Hole.Carrier.out
gone_account = refl

last_number : IsSaveSeen (sample 9 saves)
unfolding digits whole_of is_number subs.number_in part_in id_in node_cmp key_cmp is_legal_node is_legal_sub is_sub_text is_global_name row_field line_of layout_of data_node marker row_list row_class index_key key_node entry_node entry_list stale differing has_legal_entries child walk is_at_or_below read read_as edits_of look lock_keys test_targets kill_entries write save_items save field.out-Field denote.Hole.Carrier.out
last_number = refl

taken_id : IsSaveSeen (sample 10 saves)
unfolding digits whole_of is_number subs.number_in part_in id_in node_cmp key_cmp is_legal_node is_legal_sub is_sub_text is_global_name row_field line_of layout_of data_node marker row_list row_class index_key key_node entry_node entry_list stale differing has_legal_entries child walk is_at_or_below read read_as edits_of look lock_keys test_targets kill_entries write save_items save field.out-Field denote.Hole.Carrier.out
taken_id = refl

low_counter : IsSaveSeen (sample 11 saves)
unfolding digits whole_of is_number subs.number_in part_in id_in node_cmp key_cmp is_legal_node is_legal_sub is_sub_text is_global_name row_field line_of layout_of data_node marker row_list row_class index_key key_node entry_node entry_list stale differing has_legal_entries child walk is_at_or_below read read_as edits_of look lock_keys test_targets kill_entries write save_items save field.out-Field denote.Hole.Carrier.out
low_counter = refl

pub saves_seen : AreSavesSeen saves
saves_seen = (new_account, (new_ring, (old_account, (taken_number, (swapped_numbers, (new_saver, (moved_clerk, (no_branch, (gone_account, (last_number, (taken_id, (low_counter, tt))))))))))))

pub walks_seen : AreMembersSeen walks
unfolding digits whole_of is_number subs.number_in part_in id_in key_node next_member
walks_seen = (refl, (refl, (refl, (refl, (refl, tt)))))
