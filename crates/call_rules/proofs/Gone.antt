-- What a delete kills: the entries of the record, and its row with all below it.
use Rattle.std.proofs.Common.{◌≡◌, ◌≢◌, ◌⊎◌, inl, inr, ⊎_elim, ℕ, zero, suc, ◌+◌, Bool, true, false, cond, ◌&&◌, List, [], ◌∷◌, ◌++◌, map, length, Option, Some, None, is_some, refl, sym, ap, subst, ◌∙◌, arith, append_assoc, append-nil}
use Rattle.std.specs.List.{list_any}
use Rattle.std.specs.Option.{option_and_then}
use Rattle.std.specs.Ordering.{eq_by_cmp, is_eq}
use Rattle.std.proofs.lemmas.Cmp.{tied_itself}
use Rattle.std.specs.FinMap.{find, get, empty, get-empty, entries as listed}
use Rattle.obj_kinds.specs.declared.name.ClassName.{ClassName}
use Rattle.obj_kinds.specs.declared.node.Node.{Node}
use Rattle.obj_kinds.specs.declared.sub.Sub.{Sub}
use Rattle.obj_kinds.specs.declared.sub.Sub.TheVariants.{Str}
use Rattle.obj_kinds.specs.declared.value.Value.{Value}
use Rattle.obj_kinds.specs.declared.op.Pid.{Pid}
use Rattle.obj_kinds.specs.declared.op.Op.{Op}
use Rattle.obj_kinds.specs.declared.op.Op.TheVariants.{Set, Kill}
use Rattle.obj_kinds.specs.Ids.{id_text}
use Rattle.obj_kinds.specs.Subscript.{sub_of}
use Rattle.obj_kinds.specs.Order.{text_cmp, sub_cmp, node_cmp, covers, is_front}
use Rattle.obj_kinds.proofs.OrderLemmas.{sub_total}
use Rattle.obj_kinds.proofs.TextLaws.{same_text-is}
use Rattle.global_tree.proofs.StepLaws.{covers_itself}
use Rattle.schema_kinds.specs.declared.class.Class.{Class}
use Rattle.schema_kinds.specs.declared.key.Key.{Key}
use Rattle.schema_kinds.specs.declared.record.Record.{Record}
use Rattle.schema_kinds.specs.declared.record.Part.TheVariants.{Del}
use Rattle.schema_kinds.specs.Classes.{class_names, class_of, extent_of, is_with, is_root}
use Rattle.schema_kinds.specs.Worlds.{World, Change, key_cmp, apply}
use Rattle.schema_kinds.specs.KeyLaws.{key_total, key_exact}
use Rattle.global_tree.proofs.MapLaws.{one_key}
use Rattle.record_layout.specs.Rows.{data_node, below}
use Rattle.storage_map.specs.Entries.{entry_node}
use Rattle.storage_map.specs.Changes.{rows_if, entries_if, AreChanges}
use Rattle.storage_map.specs.declared.edits.Edits.{Edits}
use Rattle.storage_map.specs.Worlds.{first_sub, last_sub, extent_with, key_at, or_key, entry_key, extent_has, owner, IsKeyOf}
use Rattle.storage_map.proofs.OwnerLaws.{rows_belong}
use Rattle.world_images.specs.Images.{IsEvenExtent, IsOfClass}
use Rattle.world_images.proofs.EntryLaws.{and_first, last_letter, other_letter, index_extent, extent_entry, IsEntry}
use Rattle.world_images.proofs.TurnLaws.{covers_is, entry_global, entry_subs, key_needs, row_global, none_set, none_killed, row_there}
use Rattle.object_calls.specs.Edits.{edits_of}
use Rattle.object_calls.proofs.EditLaws.{edits_are_changes}
use Rattle.object_calls.specs.Saves.{is_key}
use Rattle.object_runs.specs.Invariant.{wrote, written, shown, guarding_in, key_guard}
use Rattle.store_core.specs.Guard.{Guarding, Unguarded, HoldsGuard}
use Rattle.call_rules.proofs.Rules.{written-append}
use Rattle.call_rules.proofs.Writes.{kills_of, sets_of, first_writes, later_writes, after_kills, no_sets, own_work, first_foreign}

-- ---- covering

front_more : (xs ys : List Sub) → is_front xs (xs ++ ys) ≡ true
front_more [] ys = refl
front_more (x ∷ xs) ys = both (eq_by_cmp sub_cmp x x) (is_front xs (xs ++ ys)) (ap is_eq (tied_itself sub_total x)) (front_more xs ys)
  where
    both : (a b : Bool) → a ≡ true → b ≡ true → (a && b) ≡ true
    both true b e f = f
    both false b e f = absurd (cc e)

pub covers_below : (n : Node) (way : List Sub) → covers n (below n way) ≡ true
unfolding covers
covers_below n way = both (eq_by_cmp text_cmp n.global n.global) (is_front n.subs (n.subs ++ way)) (and_first (eq_by_cmp text_cmp n.global n.global) (is_front n.subs n.subs) (covers_itself n)) (front_more n.subs way)
  where
    both : (a b : Bool) → a ≡ true → b ≡ true → (a && b) ≡ true
    both true b e f = f
    both false b e f = absurd (cc e)

-- ---- the data global has no guards of keys

no_index : (names : List (List ℕ)) (extent : List ℕ) (cs : List Class) → extent_with names 73 (extent ++ 68 ∷ []) cs ≡ None
no_index names extent [] = refl
no_index names extent (c ∷ cs) = by (is_with (extent ++ 68 ∷ []) c.name.0 73) refl (no_index names extent cs)
  where
    by : (b : Bool) → is_with (extent ++ 68 ∷ []) c.name.0 73 ≡ b → extent_with names 73 (extent ++ 68 ∷ []) cs ≡ None → extent_with names 73 (extent ++ 68 ∷ []) (c ∷ cs) ≡ None
    by true h rest = let letter : 68 ≡ 73 = last_letter extent c.name.0 68 73 (same_text-is (extent ++ 68 ∷ []) (c.name.0 ++ 73 ∷ []) h) in absurd (omega (arith, letter))
    by false h rest = ap (λ b. cond (b && is_root names c) (Some c.name) (extent_with names 73 (extent ++ 68 ∷ []) cs)) h ∙ rest

pub row_unguarded : (classes : List Class) (key : Key) (n : Node) → n.global ≡ key.extent.0 ++ 68 ∷ [] → key_guard classes n ≡ Unguarded
row_unguarded classes key n e = ap (λ o. guarding_in classes n o (owner classes n)) (ap (λ g. extent_with (class_names classes) 73 g classes) e ∙ no_index (class_names classes) key.extent.0 classes) ∙ none_guarded (owner classes n)
  where
    none_guarded : (o : Option Key) → guarding_in classes n None o ≡ Unguarded
    none_guarded None = refl
    none_guarded (Some k) = refl

-- what stands at or below a row
pub row_below : (key : Key) (n : Node) → covers (data_node key) n ≡ true → (way : List Sub) × (n ≡ below (data_node key) way)
row_below key n c = covers_is (data_node key) n c

module _ (classes : List Class) (key : Key) (real : IsKeyOf classes key) where
  pub row_owner : (n : Node) → covers (data_node key) n ≡ true → owner classes n ≡ Some key
  row_owner n c = let w = row_below key n c in ap (owner classes) w.1 ∙ rows_belong classes key w.0 real

  pub row_guard_free : (n : Node) → covers (data_node key) n ≡ true → key_guard classes n ≡ Unguarded
  row_guard_free n c = let w = row_below key n c in row_unguarded classes key n (ap (λ (m : Node). m.global) w.1 ∙ row_global key w.0)

  -- below an entry stands nothing that belongs to a key
  module _ (class : ClassName) (in' : extent_of classes class ≡ Some key.extent) (even : IsEvenExtent classes key.extent) (c : Class) (is : class_of classes class ≡ Some c) (m : Node) (entry : IsEntry key c m) where
    pub entry_alone : (n : Node) (k : Key) → owner classes n ≡ Some k → covers m n ≡ true → n ≡ m
    unfolding owner
    entry_alone n k owned cov =
        let rest = covers_is m n cov in
        let whole : n ≡ record { global = key.extent.0 ++ 73 ∷ []; subs = Str entry.name ∷ entry.values ++ sub_of (id_text key.id) ∷ rest.0 } =
        rest.1 ∙ ap (λ (k' : Node). below k' rest.0) entry.node
        ∙ (λ i. record { global = entry_global key entry.name entry.values i; subs = (ap (λ l. l ++ rest.0) (entry_subs key entry.name entry.values) ∙ ap (λ l. Str entry.name ∷ l) (append_assoc entry.values (sub_of (id_text key.id) ∷ []) rest.0)) i }) in
        let told : entry_key classes (Str entry.name ∷ entry.values ++ sub_of (id_text key.id) ∷ rest.0) key.extent ≡ Some k =
        sym (
        ap (λ o. or_key (option_and_then (key_at classes (first_sub (Str entry.name ∷ entry.values ++ sub_of (id_text key.id) ∷ rest.0))) o) (option_and_then (entry_key classes (Str entry.name ∷ entry.values ++ sub_of (id_text key.id) ∷ rest.0)) (extent_with (class_names classes) 73 (key.extent.0 ++ 73 ∷ []) classes))) (other_letter (class_names classes) key.extent.0 classes)
        ∙ ap (option_and_then (entry_key classes (Str entry.name ∷ entry.values ++ sub_of (id_text key.id) ∷ rest.0))) (index_extent (class_names classes) key.extent classes real.extent)
        ) ∙ ap (owner classes) (sym whole) ∙ owned in
        let used : extent_has classes key.extent entry.name (length entry.values + length rest.0) ≡ true = key_needs classes entry.name (sub_of (id_text key.id)) entry.values rest.0 key.extent k told in
        by rest.0 (even entry.name (length entry.values) (length entry.values + length rest.0) (extent_entry classes key.extent class c entry.name (length entry.values) is in' entry.has) used) rest.1
      where
        by : (more : List Sub) → length entry.values ≡ length entry.values + length more → n ≡ below m more → n ≡ m
        by [] e at = at ∙ (λ i. record { global = m.global; subs = append-nil m.subs i })
        by (s ∷ ss) e at = absurd (omega (arith, e))

-- ---- what the kills make of the nodes

module _ (classes : List Class) (key : Key) (real : IsKeyOf classes key) (r : Record) (in' : extent_of classes r.class ≡ Some key.extent) (even : IsEvenExtent classes key.extent) where
  -- the newest first
  abbrev pub delete_writes : List Op
  delete_writes = Kill (data_node key) ∷ first_writes (edits_of classes key (Some r) None)

  own_gone : (n : Node) → owner classes n ≡ Some key → written delete_writes n (shown classes key n (Some r)) ≡ None
  own_gone n own = by (covers (data_node key) n) refl
    where
      e : Edits
      e = edits_of classes key (Some r) None

      y : Option Value
      y = written (first_writes e) n (shown classes key n (Some r))

      are : AreChanges classes key (Some r) None (edits_of classes key (Some r) None)
      are = edits_are_changes classes key (Some r) None

      not_below : covers (data_node key) n ≡ false → (m : Node) (v : Value) → get (rows_if classes key (Some r)) m ≡ Some v → covers m n ≡ false
      not_below away m v there = at (covers m n) refl
        where
          at : (b : Bool) → covers m n ≡ b → b ≡ false
          at false f = refl
          at true f =
              let w = row_there classes key r.class real in' even (Some r) m v there in
              let z = covers_is m n f in
              let up : n ≡ below (data_node key) (w.0 ++ z.0) = z.1 ∙ ap (λ (k : Node). below k z.0) w.1 ∙ (λ i. record { global = (data_node key).global; subs = append_assoc (data_node key).subs w.0 z.0 i }) in
              absurd (cc (sym away ∙ ap (covers (data_node key)) up ∙ covers_below (data_node key) (w.0 ++ z.0)))

      later_is : covers (data_node key) n ≡ false → written (later_writes e) n y ≡ y
      later_is away =
          written-append (sets_of e.entry_sets) (sets_of e.row_sets ++ kills_of e.row_kills) n y
          ∙ no_sets e.entry_sets n _ (ap (find node_cmp n) are.entry_sets ∙ none_set (entries_if classes key (Some r)) (entries_if classes key None) n (get-empty node_cmp n))
          ∙ written-append (sets_of e.row_sets) (kills_of e.row_kills) n y
          ∙ no_sets e.row_sets n _ (ap (find node_cmp n) are.row_sets ∙ none_set (rows_if classes key (Some r)) (rows_if classes key None) n (get-empty node_cmp n))
          ∙ after_kills e.row_kills n y
          ∙ ap (λ b. cond b None y) (ap (list_any (λ k. covers k n)) are.row_kills ∙ none_killed (rows_if classes key (Some r)) (rows_if classes key None) n (not_below away))

      by : (b : Bool) → covers (data_node key) n ≡ b → cond (covers (data_node key) n) None y ≡ None
      by true f = ap (λ b. cond b None y) f
      by false f = ap (λ b. cond b None y) f ∙ sym (later_is f) ∙ own_work classes key r.class real in' even (Some r) None refl tt n own

  other_left : (n : Node) (k : Key) → owner classes n ≡ Some k → k ≢ key → (x : Option Value) → written delete_writes n x ≡ x
  other_left n k owned apart x = by (covers (data_node key) n) refl ∙ first_foreign classes key r.class real in' even (Some r) None refl tt n k owned apart x
    where
      one : (a b : Key) → Some a ≡ Some b → a ≡ b
      one a b e = cc e

      by : (b : Bool) → covers (data_node key) n ≡ b → cond (covers (data_node key) n) None (written (first_writes (edits_of classes key (Some r) None)) n x) ≡ written (first_writes (edits_of classes key (Some r) None)) n x
      by true f = absurd (apart (one k key (sym owned ∙ row_owner classes key real n f)))
      by false f = ap (λ b. cond b None (written (first_writes (edits_of classes key (Some r) None)) n x)) f

  -- the kills turn the view into the world without the key
  pub delete_written : (v : World) (n : Node) (k : Key) → owner classes n ≡ Some k → get v key ≡ Some r → written delete_writes n (shown classes k n (get v k)) ≡ shown classes k n (get (apply (Del key ∷ []) v) k)
  unfolding apply
  delete_written v n k owned here = by (is_key k key) refl
    where
      removed : (b : Bool) → is_key k key ≡ b → get (Rattle.std.specs.FinMap.remove v key) k ≡ cond b None (get v k)
      removed b e = Rattle.std.specs.FinMap.get-remove key_total v key k ∙ ap (λ c. cond c None (get v k)) e

      differ : is_key k key ≡ false → k ≢ key
      differ e same = cc (sym (ap is_eq (tied_itself key_total k)) ∙ ap (is_key k) same ∙ e)

      by : (b : Bool) → is_key k key ≡ b → written delete_writes n (shown classes k n (get v k)) ≡ shown classes k n (get (Rattle.std.specs.FinMap.remove v key) k)
      by true e =
          let same : k ≡ key = one_key key_exact k key e in
          ap (λ j. written delete_writes n (shown classes j n (get v j))) same ∙ ap (λ o. written delete_writes n (shown classes key n o)) here
          ∙ own_gone n (owned ∙ ap Some same) ∙ sym (ap (shown classes k n) (removed true e))
      by false e = other_left n k owned (differ e) (shown classes k n (get v k)) ∙ sym (ap (shown classes k n) (removed false e))
