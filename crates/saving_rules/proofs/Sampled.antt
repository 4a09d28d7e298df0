-- The worked objects can be saved.
use Rattle.std.proofs.Common.{◌≡◌, ◌≢◌, inl, inr, ℕ, suc, ◌<◌, ◌≤◌, ◌^◌, pos, true, false, List, [], ◌∷◌, map, Some, refl, sym, ap, ◌∙◌, subst, arith}
use borrow.Author.Tests.{lt-ltb}
use Rattle.std.specs.Fmt.{digits, decimal}
use Rattle.obj_kinds.specs.Subscript as subs
use Rattle.obj_kinds.specs.Subscript.{whole_of, is_number, sub_of}
use Rattle.obj_kinds.proofs.Numbers.{whole_of-printed}
use Rattle.obj_kinds.specs.Order.{node_cmp}
use Rattle.obj_kinds.specs.Limits.{is_whole, is_legal_text, is_legal_node, is_legal_sub, is_sub_text, is_global_name, is_legal_value}
use Rattle.obj_kinds.specs.declared.value.Value.{Value}
use Rattle.obj_kinds.specs.declared.value.Value.TheVariants.{List as Listed}
use Rattle.obj_kinds.specs.Values.{nested, all_nested}
use Rattle.obj_kinds.proofs.ValueLaws.{nested-List, nested-Str, all_texts-List, all_texts-Str, weight-List, weight-Str}
use Rattle.schema_kinds.specs.declared.record.Field as field
use Rattle.schema_kinds.specs.Classes.{IsBelow}
use Rattle.schema_kinds.specs.Worlds.{key_cmp}
use Rattle.obj_kinds.specs.IdReading.{part_in, id_in}
use Rattle.record_layout.specs.Shapes.{IsRowField, AreOfForms}
use Rattle.record_layout.specs.Layout.{line_of, layout_of}
use Rattle.record_layout.specs.Rows.{data_node, marker, row_list}
use Rattle.storage_map.specs.Entries.{index_key, key_node, entry_node, entry_list, has_legal_entries}
use Rattle.storage_map.specs.SoundWorlds.{passes_no_limit, IsSoundAt}
use Rattle.storage_map.specs.Keys.{Side, sides_of, target_key}
use Rattle.object_calls.proofs.Lists.{plain_item, target_item}
use Rattle.object_calls.specs.Banking.{bank, account, branch, clerk, key_in}
use Rattle.object_calls.specs.Saves.{Drawn, Item, items_of, is_key}
use Rattle.object_runs.specs.Causes.{Each, Has}
use Rattle.saving_rules.specs.Saving.{AreIdsFor, IsNumbered, key_with, FitsTarget, FitsItem}
use Rattle.saving_rules.specs.Worked.{north, ann8, carl, worked, branch_known, WorkedCanBeSaved}

nested_16 : (vs : List Value) → nested (Listed vs) 16 ≡ all_nested 15 (map nested vs)
nested_16 vs = nested-List vs 15

ann_fields : AreOfForms bank (layout_of bank ann8.class).forms ann8.fields
unfolding line_of layout_of IsRowField field.out-Field denote.Hole.Carrier.out
ann_fields = (tt, (tt, (tt, tt)))

north_fields : AreOfForms bank (layout_of bank north.class).forms north.fields
unfolding line_of layout_of IsRowField field.out-Field denote.Hole.Carrier.out
north_fields = (tt, tt)

carl_fields : AreOfForms bank (layout_of bank carl.class).forms carl.fields
unfolding line_of layout_of IsRowField field.out-Field denote.Hole.Carrier.out
carl_fields = (tt, (((omega arith, omega arith), refl), tt))

ann_limits : passes_no_limit bank (key_in account 1) ann8 ≡ true
unfolding digits whole_of is_number subs.number_in part_in id_in node_cmp is_legal_node is_legal_sub is_sub_text is_global_name is_legal_value is_legal_text line_of layout_of data_node marker row_list index_key key_node entry_node entry_list has_legal_entries passes_no_limit field.out-Field denote.Hole.Carrier.out
ann_limits = simp (plain_item, target_item, nested_16, nested-Str, all_texts-List, all_texts-Str, weight-List, weight-Str) refl

carl_limits : passes_no_limit bank (key_in clerk 1) carl ≡ true
unfolding digits whole_of is_number subs.number_in part_in id_in node_cmp is_legal_node is_legal_sub is_sub_text is_global_name is_legal_value is_legal_text line_of layout_of data_node marker row_list index_key key_node entry_node entry_list has_legal_entries passes_no_limit field.out-Field denote.Hole.Carrier.out
carl_limits = simp (plain_item, target_item, nested_16, nested-Str, all_texts-List, all_texts-Str, weight-List, weight-Str) refl

north_limits : (i : ℕ) → whole_of (decimal (suc i)) ≡ Some (pos (suc i)) → is_whole (pos (suc i)) ≡ true → passes_no_limit bank (key_with branch (suc i ∷ [])) north ≡ true
unfolding is_legal_node is_legal_sub is_global_name is_legal_value is_legal_text line_of layout_of data_node marker row_list entry_list has_legal_entries passes_no_limit field.out-Field denote.Hole.Carrier.out
north_limits i w e = simp (w, e, plain_item, target_item, nested_16, nested-Str, all_texts-List, all_texts-Str, weight-List, weight-Str) refl

ann_sound : IsSoundAt bank (key_in account 1) ann8
ann_sound = record {
  key_of = record { extent = refl; id = ((omega arith, omega arith), refl) };
  record_of = record { extent = refl; id = ((omega arith, omega arith), refl); fields = ann_fields };
  limits = ann_limits;
}

carl_sound : IsSoundAt bank (key_in clerk 1) carl
carl_sound = record {
  key_of = record { extent = refl; id = ((omega arith, omega arith), refl) };
  record_of = record { extent = refl; id = ((omega arith, omega arith), refl); fields = carl_fields };
  limits = carl_limits;
}

north_sound : (i : ℕ) → suc i < 10 ^ 18 → IsSoundAt bank (key_with branch (suc i ∷ [])) north
north_sound i small = record {
  key_of = record { extent = refl; id = ((low i, small), refl) };
  record_of = record { extent = refl; id = ((low i, small), refl); fields = north_fields };
  limits = north_limits i (whole_of-printed (decimal (suc i)) (pos (suc i)) small refl) (lt-ltb (suc i) (10 ^ 18) small);
}
  where
    low : (i : ℕ) → 1 ≤ suc i
    low i = omega arith

-- ---- where the clerk's side leads

branch_below : IsBelow bank branch branch
branch_below = (2, 2, refl, refl, (0, refl))

account_other : key_in account 1 ≢ key_in branch 1
unfolding key_cmp
account_other e = (let f : false ≡ true = ap (λ k. is_key k (key_in branch 1)) e in cc f)

clerk_other : key_in clerk 1 ≢ key_in branch 1
unfolding key_cmp
clerk_other e = (let f : false ≡ true = ap (λ k. is_key k (key_in branch 1)) e in cc f)

module _ (d : ℕ × List ℕ) where
  abbrev items : List Item
  items = items_of (d ∷ []) worked

  leads : FitsTarget bank branch_known (items_of (d ∷ []) worked) branch (key_in branch 1)
  leads = record { put = put; other = λ e. (branch, inl refl, branch_below) }
    where
      put : (j : Item) → Has j (items_of (d ∷ []) worked) → j.key ≡ key_in branch 1 → IsBelow bank j.now.class branch
      put j (inl e) is = subst (λ (x : Item). IsBelow bank x.now.class branch) (sym e) branch_below
      put j (inr (inl e)) is = absurd (account_other (ap (λ (x : Item). x.key) (sym e) ∙ is))
      put j (inr (inr (inl e))) is = absurd (clerk_other (ap (λ (x : Item). x.key) (sym e) ∙ is))
      put j (inr (inr (inr e))) is = absurd e

  side_leads : (s : Side) (id : List ℕ) → Has s (sides_of bank carl) → s.target ≡ Some id → FitsTarget bank branch_known (items_of (d ∷ []) worked) s.class (target_key bank s.class id)
  unfolding field.out-Field denote.Hole.Carrier.out
  side_leads s id (inl e) is =
      let one : 1 ∷ [] ≡ id = (let two : Some (1 ∷ []) ≡ Some id = ap (λ (x : Side). x.target) (sym e) ∙ is in cc two) in
      subst (λ (x : Side). FitsTarget bank branch_known (items_of (d ∷ []) worked) x.class (target_key bank x.class id)) (sym e)
      (subst (λ x. FitsTarget bank branch_known (items_of (d ∷ []) worked) branch (target_key bank branch x)) one leads)
  side_leads s id (inr e) is = absurd e

  north_sides : (s : Side) → Has s (sides_of bank north) → ⊥
  unfolding field.out-Field denote.Hole.Carrier.out
  north_sides s h = h

  ann_sides : (s : Side) → Has s (sides_of bank ann8) → ⊥
  unfolding field.out-Field denote.Hole.Carrier.out
  ann_sides s h = h

  fits_id : IsNumbered d.1 → Each (FitsItem bank branch_known (items_of (d ∷ []) worked)) (items_of (d ∷ []) worked)
  fits_id h = (
    record { sound = subst (λ id. IsSoundAt bank (key_with branch id) north) (sym h.1) (north_sound h.0 h.2); targets = λ s id has is. absurd (north_sides s has) },
    (record { sound = ann_sound; targets = λ s id has is. absurd (ann_sides s has) }, (record { sound = carl_sound; targets = side_leads }, tt)),
  )

fits : (drawn : Drawn) → AreIdsFor worked drawn → Each (FitsItem bank branch_known (items_of drawn worked)) (items_of drawn worked)
fits [] h = absurd h
fits (d ∷ []) h = fits_id d h.1
fits (d ∷ e ∷ ds) h = absurd h.2

pub worked_can_be_saved : WorkedCanBeSaved
unfolding key_cmp
worked_can_be_saved = record {
  extents = (refl, (refl, (refl, tt)));
  levels = (refl, (refl, (refl, tt)));
  live = (tt, (refl, (refl, tt)));
  apart = (tt, ((inr (1 ∷ [], refl, refl), tt), (tt, tt)));
  fits = λ drawn ids free. fits drawn ids;
}
