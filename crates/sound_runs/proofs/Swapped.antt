-- The worked swap is safe.
use Rattle.std.proofs.Common.{◌≡◌, ◌≢◌, ◌⊎◌, inl, inr, Bool, true, false, cond, ◌&&◌, List, [], ◌∷◌, map, codes, Option, Some, None, refl, sym, ap, ◌∙◌, subst, arith}
use Rattle.std.specs.Fmt.{digits}
use Rattle.std.specs.FinMap.{get}
use Rattle.obj_kinds.specs.declared.node.Node.{Node}
use Rattle.obj_kinds.specs.declared.op.Pid.{Pid}
use Rattle.obj_kinds.specs.Subscript as subs
use Rattle.obj_kinds.specs.Subscript.{whole_of, is_number}
use Rattle.obj_kinds.specs.Order.{node_cmp}
use Rattle.obj_kinds.specs.Limits.{is_legal_text, is_legal_node, is_legal_sub, is_sub_text, is_global_name, is_legal_value}
use Rattle.obj_kinds.specs.declared.value.Value.{Value}
use Rattle.obj_kinds.specs.declared.value.Value.TheVariants.{List as Listed}
use Rattle.obj_kinds.specs.Values.{nested, all_nested}
use Rattle.obj_kinds.proofs.ValueLaws.{nested-List, nested-Str, all_texts-List, all_texts-Str, weight-List, weight-Str}
use Rattle.schema_kinds.specs.declared.key.Key.{Key}
use Rattle.schema_kinds.specs.declared.record.Field as field
use Rattle.schema_kinds.specs.declared.record.Record.{Record}
use Rattle.schema_kinds.specs.declared.record.Part.TheVariants.{Put}
use Rattle.schema_kinds.specs.Worlds.{key_cmp}
use Rattle.obj_kinds.specs.IdReading.{part_in, id_in}
use Rattle.record_layout.specs.Shapes.{IsRowField, AreOfForms}
use Rattle.record_layout.specs.Layout.{line_of, layout_of}
use Rattle.record_layout.specs.Rows.{data_node, marker, row_list}
use Rattle.storage_map.specs.Entries.{index_key, key_node, entry_node, entry_list, has_legal_entries}
use Rattle.storage_map.specs.SoundWorlds.{passes_no_limit, IsSoundAt, has_key_node}
use Rattle.store_core.specs.Machine.{State}
use Rattle.object_calls.proofs.Lists.{plain_item, target_item}
use Rattle.object_calls.specs.Banking.{bank, account, key_in, number_node}
use Rattle.object_calls.specs.Keys.{MovedKey, moved_keys, uniques_of, sides_of}
use Rattle.object_calls.specs.Saves.{is_key}
use Rattle.object_runs.specs.ObjectMachine.{Desks, view}
use Rattle.object_runs.specs.Causes.{Each, uniques_in}
use Rattle.sound_runs.specs.Closing.{has_node_if, stands_by, IsVacant, AreDistinct, IsSafePut, IsTakenNode, Saves}
use Rattle.sound_runs.specs.Swap.{ann7, ann8, bob7, bob8, swap, IsBeforeSwap, SwapsAreSafe}
use Rattle.sound_runs.proofs.Changes.{not_true, key_is, other_key}

distinct : AreDistinct swap
unfolding key_cmp
distinct = (refl, (refl, tt))

moved_first : moved_keys (uniques_of bank (key_in account 1) ann7) (uniques_of bank (key_in account 1) ann8) ≡ record { index = codes "NumIdx"; old = Some (number_node 7); new = Some (number_node 8) } ∷ []
unfolding digits whole_of is_number subs.number_in node_cmp index_key key_node field.out-Field denote.Hole.Carrier.out
moved_first = refl

moved_second : moved_keys (uniques_of bank (key_in account 2) bob8) (uniques_of bank (key_in account 2) bob7) ≡ record { index = codes "NumIdx"; old = Some (number_node 8); new = Some (number_node 7) } ∷ []
unfolding digits whole_of is_number subs.number_in node_cmp index_key key_node field.out-Field denote.Hole.Carrier.out
moved_second = refl

ann_has_7 : has_key_node bank (key_in account 1) ann7 (number_node 7) ≡ true
unfolding digits whole_of is_number subs.number_in node_cmp index_key key_node field.out-Field denote.Hole.Carrier.out
ann_has_7 = refl

bob_has_8 : has_key_node bank (key_in account 2) bob8 (number_node 8) ≡ true
unfolding digits whole_of is_number subs.number_in node_cmp index_key key_node field.out-Field denote.Hole.Carrier.out
bob_has_8 = refl

ann_leaves_7 : has_key_node bank (key_in account 1) ann8 (number_node 7) ≡ false
unfolding digits whole_of is_number subs.number_in node_cmp index_key key_node field.out-Field denote.Hole.Carrier.out
ann_leaves_7 = refl

bob_leaves_8 : has_key_node bank (key_in account 2) bob7 (number_node 8) ≡ false
unfolding digits whole_of is_number subs.number_in node_cmp index_key key_node field.out-Field denote.Hole.Carrier.out
bob_leaves_8 = refl

no_sides_ann : sides_of bank ann8 ≡ []
no_sides_ann = refl

no_sides_bob : sides_of bank bob7 ≡ []
no_sides_bob = refl

ann_fields : AreOfForms bank (layout_of bank ann8.class).forms ann8.fields
unfolding line_of layout_of IsRowField field.out-Field denote.Hole.Carrier.out
ann_fields = (tt, (tt, (tt, tt)))

bob_fields : AreOfForms bank (layout_of bank bob7.class).forms bob7.fields
unfolding line_of layout_of IsRowField field.out-Field denote.Hole.Carrier.out
bob_fields = (tt, (tt, (tt, tt)))

nested_16 : (vs : List Value) → nested (Listed vs) 16 ≡ all_nested 15 (map nested vs)
nested_16 vs = nested-List vs 15

ann_limits : passes_no_limit bank (key_in account 1) ann8 ≡ true
unfolding digits whole_of is_number subs.number_in part_in id_in node_cmp is_legal_node is_legal_sub is_sub_text is_global_name is_legal_value is_legal_text line_of layout_of data_node marker row_list index_key key_node entry_node entry_list has_legal_entries passes_no_limit field.out-Field denote.Hole.Carrier.out
ann_limits = simp (plain_item, target_item, nested_16, nested-Str, all_texts-List, all_texts-Str, weight-List, weight-Str) refl

bob_limits : passes_no_limit bank (key_in account 2) bob7 ≡ true
unfolding digits whole_of is_number subs.number_in part_in id_in node_cmp is_legal_node is_legal_sub is_sub_text is_global_name is_legal_value is_legal_text line_of layout_of data_node marker row_list index_key key_node entry_node entry_list has_legal_entries passes_no_limit field.out-Field denote.Hole.Carrier.out
bob_limits = simp (plain_item, target_item, nested_16, nested-Str, all_texts-List, all_texts-Str, weight-List, weight-Str) refl

ann_sound : IsSoundAt bank (key_in account 1) ann8
ann_sound = record {
  key_of = record { extent = refl; id = ((omega arith, omega arith), refl) };
  record_of = record { extent = refl; id = ((omega arith, omega arith), refl); fields = ann_fields };
  limits = ann_limits;
}

bob_sound : IsSoundAt bank (key_in account 2) bob7
bob_sound = record {
  key_of = record { extent = refl; id = ((omega arith, omega arith), refl) };
  record_of = record { extent = refl; id = ((omega arith, omega arith), refl); fields = bob_fields };
  limits = bob_limits;
}

module _ (s : State) (o : Desks) (p : Pid) (h : IsBeforeSwap s o p) where
  -- no other account has a number that one of them has
  nobody_else : (k j : Key) (r : Record) (n : Node) → get (view o p.0) k ≡ Some r → has_key_node bank k r n ≡ true → j ≢ k → has_node_if bank j (get (view o p.0) j) n ≡ false
  nobody_else k j r n e f ne = not_true (has_node_if bank j (get (view o p.0) j) n) (λ g. by (get (view o p.0) j) refl g)
    where
      by : (x : Option Record) → get (view o p.0) j ≡ x → has_node_if bank j x n ≡ true → ⊥
      by None i g = cc g
      by (Some q) i g = h.sound.apart j k (record { node = n; one = q; other = r; apart = ne; first = (i, g); second = (e, f) })

  -- one that comes later and leaves the node
  later_leaves : (k j : Key) (now old : Record) (x : Option Record) (n : Node) → has_key_node bank k now n ≡ false → (is_key j k ≡ false → has_node_if bank j x n ≡ false) → j ≡ k ⊎ (is_key j k ≡ false)
      → stands_by bank None (cond (is_key j k) (Some now) None) x j n ≡ false
  later_leaves k j now old x n leaves none (inl is) = by (is_key j k) refl
    where
      and_false : (a b : Bool) → b ≡ false → (a && b) ≡ false
      and_false a b e = grind arith

      by : (b : Bool) → is_key j k ≡ b → stands_by bank None (cond b (Some now) None) x j n ≡ false
      by true e = and_false (has_node_if bank j x n) (has_key_node bank j now n) (ap (λ y. has_key_node bank y now n) is ∙ leaves)
      by false e = none e
  later_leaves k j now old x n leaves none (inr e) = ap (λ b. stands_by bank None (cond b (Some now) None) x j n) e ∙ none e

  -- one that came before and left it
  earlier_leaves : (k j : Key) (now : Record) (x : Option Record) (n : Node) → has_key_node bank k now n ≡ false → (is_key j k ≡ false → has_node_if bank j x n ≡ false) → stands_by bank (cond (is_key j k) (Some now) None) None x j n ≡ false
  earlier_leaves k j now x n leaves none = by (is_key j k) refl
    where
      by : (b : Bool) → is_key j k ≡ b → stands_by bank (cond b (Some now) None) None x j n ≡ false
      by true e = ap (λ y. has_key_node bank y now n) (key_is j k e) ∙ leaves
      by false e = none e

  either_key : (j k : Key) → j ≡ k ⊎ (is_key j k ≡ false)
  either_key j k = by (is_key j k) refl
    where
      by : (b : Bool) → is_key j k ≡ b → j ≡ k ⊎ (is_key j k ≡ false)
      by true e = inl (key_is j k e)
      by false e = inr e

  eight_vacant : IsVacant bank (view o p.0) [] (key_in account 1) (Put (key_in account 2) bob7 ∷ []) (number_node 8)
  eight_vacant id ne =
      later_leaves (key_in account 2) (record { extent = account; id = id }) bob7 bob8 (get (view o p.0) (record { extent = account; id = id })) (number_node 8) bob_leaves_8
      (λ e. nobody_else (key_in account 2) (record { extent = account; id = id }) bob8 (number_node 8) h.second bob_has_8 (other_key (record { extent = account; id = id }) (key_in account 2) e))
      (either_key (record { extent = account; id = id }) (key_in account 2))

  seven_vacant : IsVacant bank (view o p.0) (Put (key_in account 1) ann8 ∷ []) (key_in account 2) [] (number_node 7)
  seven_vacant id ne =
      earlier_leaves (key_in account 1) (record { extent = account; id = id }) ann8 (get (view o p.0) (record { extent = account; id = id })) (number_node 7) ann_leaves_7
      (λ e. nobody_else (key_in account 1) (record { extent = account; id = id }) ann7 (number_node 7) h.first ann_has_7 (other_key (record { extent = account; id = id }) (key_in account 1) e))

  first_safe : IsSafePut bank s o p swap [] (key_in account 1) ann8 (Put (key_in account 2) bob7 ∷ [])
  first_safe = record {
    row = h.first_row;
    sound = ann_sound;
    known = inl (ann7, h.first, refl);
    keys = subst (λ ms. Each (λ (m : MovedKey). IsTakenNode bank s o p [] (key_in account 1) (Put (key_in account 2) bob7 ∷ []) m.new) ms)
        (sym (ap (λ x. moved_keys (uniques_in bank (key_in account 1) x) (uniques_of bank (key_in account 1) ann8)) h.first ∙ moved_first)) ((h.eight, eight_vacant), tt);
    sides = tt;
  }

  second_safe : IsSafePut bank s o p swap (Put (key_in account 1) ann8 ∷ []) (key_in account 2) bob7 []
  second_safe = record {
    row = h.second_row;
    sound = bob_sound;
    known = inl (bob8, h.second, refl);
    keys = subst (λ ms. Each (λ (m : MovedKey). IsTakenNode bank s o p (Put (key_in account 1) ann8 ∷ []) (key_in account 2) [] m.new) ms)
        (sym (ap (λ x. moved_keys (uniques_in bank (key_in account 2) x) (uniques_of bank (key_in account 2) bob7)) h.second ∙ moved_second)) ((h.seven, seven_vacant), tt);
    sides = tt;
  }

pub swaps_are_safe : SwapsAreSafe
swaps_are_safe s o p h = Saves distinct (first_safe s o p h, (second_safe s o p h, tt))
