-- An object is marked, or one of its parts is.
use Rattle.std.proofs.Common.{◌≡◌, ◌≢◌, ℕ, zero, suc, ◌-◌, Bool, true, false, ◌&&◌, ◌||◌, List, [], ◌∷◌, ◌++◌, length, Option, None, Some, refl, sym, ap, ◌∙◌, arith}
use Rattle.std.specs.List.{list_any, flat_map}
use Rattle.std.specs.Prelude.{is_none, is_some}
use Rattle.std.specs.Option.{option_map}
use Rattle.obj_kinds.specs.declared.sub.Sub.{Sub}
use Rattle.schema_kinds.specs.declared.class.Class.{Class}
use Rattle.schema_kinds.specs.declared.prop.Prop.{Prop}
use Rattle.schema_kinds.specs.declared.kind.Item.{Item}
use Rattle.schema_kinds.specs.Classes.{class_of, props_of}
use Rattle.record_layout.specs.Shapes.{form_of}
use Rattle.oref_table.specs.declared.obj.Obj.{Obj}
use Rattle.oref_table.specs.declared.slot.Slot.{Slot}
use Rattle.oref_table.specs.declared.slot.Slot.TheViews.{out-Slot}
use Rattle.oref_table.specs.Memory.{Object, Memory, object_of}
use Rattle.oref_table.specs.Kept.{as_kept}
use Rattle.object_members.specs.Parts.{element_parts, form_parts, props_parts, parts_part, with_parts_within}
use Rattle.object_calls.specs.Memories.{is_stored, is_new, is_modified}
use Rattle.object_members.specs.Seeing.{mark_part, seen_part, is_marked, memories}
use Rattle.save_set.specs.Marking.{is_marked_at, any_marked, any_part_marked, items_parts, pairs_parts}

any_append : (p : ℕ → Bool) (xs ys : List ℕ) → list_any p (xs ++ ys) ≡ list_any p xs || list_any p ys
any_append p [] ys = refl
any_append p (x ∷ xs) ys = by (p x) (any_append p xs ys)
  where
    by : (b : Bool) → list_any p (xs ++ ys) ≡ list_any p xs || list_any p ys → b || list_any p (xs ++ ys) ≡ (b || list_any p xs) || list_any p ys
    by true e = refl
    by false e = e

any_flat : (p : ℕ → Bool) (f : ℕ → List ℕ) (xs : List ℕ) → list_any p (flat_map f xs) ≡ list_any (λ n. list_any p (f n)) xs
any_flat p f [] = refl
any_flat p f (x ∷ xs) = any_append p (f x) (flat_map f xs) ∙ ap (λ b. list_any p (f x) || b) (any_flat p f xs)

module _ (classes : List Class) (m : Memory) where
  -- the object's own mark, and then those of its parts
  within_none : (depth n : ℕ) → object_of n m.objects ≡ None → any_marked classes m depth n ≡ false
  unfolding any_marked
  within_none zero n e = ap (λ x. mark_part x || false) e
  within_none (suc depth) n e =
      ap (λ x. mark_part x || list_any (is_marked_at classes m) (flat_map (with_parts_within classes m depth) (parts_part classes m x))) e

  within_zero : (n : ℕ) (o : Object) → object_of n m.objects ≡ Some o → any_marked classes m 0 n ≡ o.modified || false
  unfolding any_marked
  within_zero n o e = ap (λ x. mark_part x || false) e

  within_suc : (depth n : ℕ) (o : Object) → object_of n m.objects ≡ Some o
      → any_marked classes m (suc depth) n ≡ o.modified || any_part_marked classes m depth (props_parts (props_of (class_of classes o.class)) o.slots)
  unfolding any_marked
  within_suc depth n o e =
      ap (λ x. mark_part x || list_any (is_marked_at classes m) (flat_map (with_parts_within classes m depth) (parts_part classes m x))) e
      ∙ ap (λ b. o.modified || b) (any_flat (is_marked_at classes m) (with_parts_within classes m depth) (props_parts (props_of (class_of classes o.class)) o.slots))

  kept_none : (x : Option Object) → None ≡ option_map (as_kept m.objects) x → x ≡ None
  kept_none None e = refl
  kept_none (Some o) e = absurd (cc)

  pub marked_none : (depth n : ℕ) → None ≡ option_map (as_kept m.objects) (object_of n m.objects) → false ≡ any_marked classes m depth n
  marked_none depth n e = sym (within_none depth n (kept_none (object_of n m.objects) e))

  kept_some : (x : Option Object) (v : Obj) → Some v ≡ option_map (as_kept m.objects) x → (o : Object) × (x ≡ Some o) × (v ≡ as_kept m.objects o)
  kept_some None v e = absurd (cc)
  kept_some (Some o) v e = (o, refl, cc)

  pub marked_here : (depth n : ℕ) (v : Obj) → Some v ≡ option_map (as_kept m.objects) (object_of n m.objects) → v.modified ≡ true → true ≡ any_marked classes m depth n
  marked_here zero n v e h =
      let p = kept_some (object_of n m.objects) v e in
      sym (within_zero n p.0 p.1 ∙ ap (λ b. b || false) (sym (ap (λ (u : Obj). u.modified) p.2) ∙ h))
  marked_here (suc depth) n v e h =
      let p = kept_some (object_of n m.objects) v e in
      sym (within_suc depth n p.0 p.1 ∙ ap (λ b. b || any_part_marked classes m depth (props_parts (props_of (class_of classes p.0.class)) p.0.slots)) (sym (ap (λ (u : Obj). u.modified) p.2) ∙ h))

  pub marked_end : (depth n : ℕ) (v : Obj) → Some v ≡ option_map (as_kept m.objects) (object_of n m.objects) → v.modified ≡ false → depth ≡ 0 → false ≡ any_marked classes m depth n
  marked_end zero n v e h z =
      let p = kept_some (object_of n m.objects) v e in
      sym (within_zero n p.0 p.1 ∙ ap (λ b. b || false) (sym (ap (λ (u : Obj). u.modified) p.2) ∙ h))
  marked_end (suc depth) n v e h z = absurd (omega (arith, z))

  pub marked_parts : (depth n : ℕ) (v : Obj) → Some v ≡ option_map (as_kept m.objects) (object_of n m.objects) → v.modified ≡ false → depth ≢ 0
      → any_part_marked classes m (depth - 1) (props_parts (props_of (class_of classes v.class)) v.slots) ≡ any_marked classes m depth n
  marked_parts zero n v e h z = absurd (z refl)
  marked_parts (suc depth) n v e h z =
      let p = kept_some (object_of n m.objects) v e in
      let less : suc depth - 1 ≡ depth = omega arith in
      ap (λ k. any_part_marked classes m k (props_parts (props_of (class_of classes v.class)) v.slots)) less
      ∙ ap (λ (u : Obj). any_part_marked classes m depth (props_parts (props_of (class_of classes u.class)) u.slots)) p.2
      ∙ sym (within_suc depth n p.0 p.1 ∙ ap (λ b. b || any_part_marked classes m depth (props_parts (props_of (class_of classes p.0.class)) p.0.slots)) (sym (ap (λ (u : Obj). u.modified) p.2) ∙ h))

  -- an object that is stored counts as modified where it or a part of it is marked
  pub old_modified : (n : ℕ) (v : Obj) → Some v ≡ option_map (as_kept m.objects) (object_of n m.objects) → is_none v.extent ≡ false → is_none v.id ≡ false
      → (b : Bool) → b ≡ any_marked classes m 4 n → b ≡ is_modified (memories classes) m n
  unfolding any_marked is_marked
  old_modified n v e extent id b h =
      let p = kept_some (object_of n m.objects) v e in
      let is_extent : is_none p.0.extent ≡ false = ap (λ (u : Obj). is_none u.extent) (sym p.2) ∙ extent in
      let is_id : is_none p.0.id ≡ false = ap (λ (u : Obj). is_none u.id) (sym p.2) ∙ id in
      h ∙ sym (ap (λ x. is_stored (seen_part x) && (is_new (seen_part x) || is_marked classes m n)) p.1 ∙ by p.0.extent p.0.id is_extent is_id (is_marked classes m n))
    where
      by : {A B : Type 0} (x : Option A) (y : Option B) → is_none x ≡ false → is_none y ≡ false → (c : Bool) → is_some x && ((is_some x && is_none y) || c) ≡ c
      by None y f g c = cc
      by (Some x) None f g c = cc
      by (Some x) (Some y) f g true = refl
      by (Some x) (Some y) f g false = refl

  module _ (depth : ℕ) where
    pub alone : (n : ℕ) → any_marked classes m depth n ≡ any_part_marked classes m depth (n ∷ [])
    alone n = by (any_marked classes m depth n)
      where
        by : (b : Bool) → b ≡ b || false
        by true = refl
        by false = refl

    -- one marked part is enough, and where it isn't the others are asked
    append_true : (xs ys : List ℕ) → any_part_marked classes m depth xs ≡ true → any_part_marked classes m depth (xs ++ ys) ≡ true
    append_true xs ys h = any_append (any_marked classes m depth) xs ys ∙ ap (λ b. b || any_part_marked classes m depth ys) h

    append_false : (xs ys : List ℕ) → any_part_marked classes m depth xs ≡ false → any_part_marked classes m depth (xs ++ ys) ≡ any_part_marked classes m depth ys
    append_false xs ys h = any_append (any_marked classes m depth) xs ys ∙ ap (λ b. b || any_part_marked classes m depth ys) h

    module _ (i : Item) where
      pub item_marked : (rest ss : List Slot) (s : Slot) → rest ≡ s ∷ ss → any_part_marked classes m depth (element_parts i (out-Slot s)) ≡ true → any_part_marked classes m depth (items_parts i rest) ≡ true
      item_marked rest ss s e h = ap (λ r. any_part_marked classes m depth (items_parts i r)) e ∙ append_true (element_parts i (out-Slot s)) (items_parts i ss) h

      pub item_passed : (rest ss : List Slot) (s : Slot) → rest ≡ s ∷ ss → any_part_marked classes m depth (element_parts i (out-Slot s)) ≡ false
          → any_part_marked classes m depth (items_parts i rest) ≡ any_part_marked classes m depth (items_parts i ss)
      item_passed rest ss s e h = ap (λ r. any_part_marked classes m depth (items_parts i r)) e ∙ append_false (element_parts i (out-Slot s)) (items_parts i ss) h

      pub no_items : (rest : List Slot) → length rest ≡ 0 → any_part_marked classes m depth (items_parts i rest) ≡ false
      no_items [] h = refl
      no_items (s ∷ ss) h = absurd (omega (arith, h))

      pub pair_marked : (rest ps : List (Sub × Slot)) (p : Sub × Slot) → rest ≡ p ∷ ps → any_part_marked classes m depth (element_parts i (out-Slot p.1)) ≡ true → any_part_marked classes m depth (pairs_parts i rest) ≡ true
      pair_marked rest ps p e h = ap (λ r. any_part_marked classes m depth (pairs_parts i r)) e ∙ append_true (element_parts i (out-Slot p.1)) (pairs_parts i ps) h

      pub pair_passed : (rest ps : List (Sub × Slot)) (p : Sub × Slot) → rest ≡ p ∷ ps → any_part_marked classes m depth (element_parts i (out-Slot p.1)) ≡ false
          → any_part_marked classes m depth (pairs_parts i rest) ≡ any_part_marked classes m depth (pairs_parts i ps)
      pair_passed rest ps p e h = ap (λ r. any_part_marked classes m depth (pairs_parts i r)) e ∙ append_false (element_parts i (out-Slot p.1)) (pairs_parts i ps) h

      pub no_pairs : (rest : List (Sub × Slot)) → length rest ≡ 0 → any_part_marked classes m depth (pairs_parts i rest) ≡ false
      no_pairs [] h = refl
      no_pairs (p ∷ ps) h = absurd (omega (arith, h))

    pub prop_marked : (wanted ps : List Prop) (rest ss : List Slot) (p : Prop) (s : Slot) → wanted ≡ p ∷ ps → rest ≡ s ∷ ss
        → any_part_marked classes m depth (form_parts (form_of p.kind) (out-Slot s)) ≡ true → any_part_marked classes m depth (props_parts wanted rest) ≡ true
    prop_marked wanted ps rest ss p s e f h =
        ap (λ w. any_part_marked classes m depth (props_parts w rest)) e ∙ ap (λ r. any_part_marked classes m depth (props_parts (p ∷ ps) r)) f
        ∙ append_true (form_parts (form_of p.kind) (out-Slot s)) (props_parts ps ss) h

    pub prop_passed : (wanted ps : List Prop) (rest ss : List Slot) (p : Prop) (s : Slot) → wanted ≡ p ∷ ps → rest ≡ s ∷ ss
        → any_part_marked classes m depth (form_parts (form_of p.kind) (out-Slot s)) ≡ false
        → any_part_marked classes m depth (props_parts wanted rest) ≡ any_part_marked classes m depth (props_parts ps ss)
    prop_passed wanted ps rest ss p s e f h =
        ap (λ w. any_part_marked classes m depth (props_parts w rest)) e ∙ ap (λ r. any_part_marked classes m depth (props_parts (p ∷ ps) r)) f
        ∙ append_false (form_parts (form_of p.kind) (out-Slot s)) (props_parts ps ss) h

    pub no_slots : (ps : List Prop) (ss : List Slot) → length ss ≡ 0 → any_part_marked classes m depth (props_parts ps ss) ≡ false
    no_slots [] ss h = refl
    no_slots (p ∷ ps) [] h = refl
    no_slots (p ∷ ps) (s ∷ ss) h = absurd (omega (arith, h))

    pub no_props : (ps : List Prop) (ss : List Slot) → length ps ≡ 0 → any_part_marked classes m depth (props_parts ps ss) ≡ false
    no_props [] ss h = refl
    no_props (p ∷ ps) ss h = absurd (omega (arith, h))
