-- What a save writes of one object is its own: the row is held, and the guard of each entry that is killed or set.
use Rattle.std.proofs.Common.{◌≡◌, ◌⊎◌, inl, inr, ℕ, Bool, true, false, List, [], ◌∷◌, ◌++◌, Option, Some, None, is_some, refl, sym, ap, subst, ◌∙◌, append_assoc}
use Rattle.std.specs.FinMap.{get, get-empty, entries as listed}
use Rattle.obj_kinds.specs.declared.name.ClassName.{ClassName}
use Rattle.obj_kinds.specs.declared.node.Node.{Node}
use Rattle.obj_kinds.specs.declared.value.Value.{Value}
use Rattle.obj_kinds.specs.declared.value.Value.TheVariants as value
use Rattle.obj_kinds.specs.declared.op.Op.TheVariants.{Set, Kill}
use Rattle.obj_kinds.specs.Order.{node_cmp, covers}
use Rattle.obj_kinds.specs.Values.{same_value}
use Rattle.obj_kinds.proofs.ValueLaws.{same_value-itself}
use Rattle.schema_kinds.specs.declared.class.Class.{Class}
use Rattle.schema_kinds.specs.declared.key.Key.{Key}
use Rattle.schema_kinds.specs.declared.record.Field.{Field}
use Rattle.schema_kinds.specs.declared.record.Record.{Record}
use Rattle.schema_kinds.specs.Classes.{class_of}
use Rattle.record_layout.specs.Rows.{data_node, below}
use Rattle.record_layout.specs.Shapes.{forms_of, AreOfForms}
use Rattle.storage_map.specs.Changes.{stale, differing, same_there, rows_if, entries_if}
use Rattle.storage_map.specs.Entries.{entry_list, valued_empty, entries, props_in}
use Rattle.storage_map.specs.Worlds.{owner}
use Rattle.storage_map.specs.SoundWorlds.{IsSoundAt}
use Rattle.world_images.specs.Images.{IsOfClass}
use Rattle.world_images.proofs.EntryLaws.{entries_belong, entry_there}
use Rattle.world_images.proofs.TurnLaws.{row_there, covers_is}
use Rattle.store_core.specs.Guard.{HoldsGuard, HoldsToEnd}
use Rattle.object_calls.specs.Edits.{edits_of, ordered_entries}
use Rattle.object_calls.specs.Keys.{uniques_of, sides_of, side_node, MovedKey, moved_keys, MovedSide, moved_sides}
use Rattle.object_calls.proofs.EditLaws.{edits_are_changes}
use Rattle.object_runs.specs.Causes.{Each, uniques_in, sides_in_view}
use Rattle.object_runs.specs.Runs.{Both}
use Rattle.object_runs.specs.Invariant.{HoldsRow, row_guarding, row_guard, key_guard}
use Rattle.run_rules.specs.Steps.{OwnsWritten}
use Rattle.call_rules.specs.Settings.{Setting}
use Rattle.call_rules.specs.Schemas.{IsStorableSchema}
use Rattle.call_rules.proofs.Owned.{value_and_came, guard_held}
use Rattle.call_rules.proofs.Gone.{row_owner, row_guard_free, entry_alone, covers_below}
use Rattle.good_deletes.proofs.Locks.{HoldsIf}
use Rattle.saving_rules.proofs.Lists.{each_to, stale_gone, differing_new, each_left, each_put_all, all_empty}
use Rattle.saving_rules.proofs.Places.{old_key, new_key, old_side, new_side, born_key, born_side}

pub same_record : (r : Record) (c : ClassName) → r.class ≡ c → r ≡ record { class = c; fields = r.fields }
same_record r c e = λ i. record { class = e i; fields = r.fields }

and_each : {A : Type 0} (P Q : A → Type 0) (xs : List A) → Each P xs → Each Q xs → Each (λ x. P x × Q x) xs
and_each P Q [] p q = tt
and_each P Q (x ∷ xs) p q = ((p.0, q.0), and_each P Q xs p.1 q.1)

-- the record that was under the key, where there was one, is of the class, and in shape
abbrev pub WasSound : List Class → Key → Record → Option Record → Type 0
WasSound classes key q None = Unit {0}
WasSound classes key q (Some r) = (r.class ≡ q.class) × IsSoundAt classes key r

module _ (t : Setting) (schema : IsStorableSchema t.classes) (key : Key) where
  -- the old and the new nodes of moved keys, and entries of moved sides, are held
  abbrev pub KeysHeld : Option Record → Record → Both → Type 0
  KeysHeld old q b = Each (λ (m : MovedKey). HoldsIf t m.old b × HoldsIf t m.new b) (moved_keys (uniques_in t.classes key old) (uniques_of t.classes key q))

  abbrev pub SidesHeld : Option Record → Record → Both → Type 0
  SidesHeld old q b = Each (λ (m : MovedSide). HoldsIf t (side_node key m.name m.old) b × HoldsIf t (side_node key m.name m.new) b) (moved_sides (sides_in_view t.classes old) (sides_of t.classes q))

  fits_forms : (r : Record) → IsSoundAt t.classes key r → AreOfForms t.classes (forms_of (props_in (class_of t.classes r.class))) r.fields
  fits_forms r at = subst (λ forms. AreOfForms t.classes forms r.fields) (schema.forms r.class key.extent at.record_of.extent) at.record_of.fields

  module _ (c : ClassName) (fs gs : List Field) (at_old : IsSoundAt t.classes key (record { class = c; fields = fs })) (at_new : IsSoundAt t.classes key (record { class = c; fields = gs })) (b : Both) where
    -- an entry that only the old record has may be killed
    owns_kill_of : (m : Node) (v : Value) → get (entries t.classes key (record { class = c; fields = fs })) m ≡ Some v → get (entries t.classes key (record { class = c; fields = gs })) m ≡ None → HoldsRow b.store.holds t.p key
        → KeysHeld (Some (record { class = c; fields = fs })) (record { class = c; fields = gs }) b → SidesHeld (Some (record { class = c; fields = fs })) (record { class = c; fields = gs }) b → OwnsWritten t.classes b.store.holds t.p (Kill m)
    owns_kill_of m v there none row keys sides =
        let real = at_old.key_of in
        let in' = at_old.record_of.extent in
        let mine : owner t.classes m ≡ Some key = entries_belong t.classes key (record { class = c; fields = fs }) m v real in' there in
        let p = entry_there t.classes key (record { class = c; fields = fs }) m v there in
        let Q : Option Node → Type 0 = λ o. HoldsIf t o b in (
          (key, mine),
          λ n k own cov.
              (let same = entry_alone t.classes key real c in' (schema.even key.extent) p.0 p.1 m p.2 n k own cov in
              let keys' : key ≡ k = one key k (sym mine ∙ ap (owner t.classes) (sym same) ∙ own) in (
                subst (HoldsRow b.store.holds t.p) keys' row,
                subst (λ x. HoldsGuard b.store.holds t.p (key_guard t.classes x)) (sym same)
                    (guard_held t.classes key real schema (record { class = c; fields = fs }) in' b.store.holds t.p m mine (value_and_came t.classes key (record { class = c; fields = fs }) m v there).0
                    (λ i has unique subs is at. old_key t.classes key c Q fs gs (fits_forms (record { class = c; fields = fs }) at_old) (fits_forms (record { class = c; fields = gs }) at_new) keys i has unique subs is (ap (get (entries t.classes key (record { class = c; fields = gs }))) (sym at) ∙ none))
                    (λ e has class inverse is s at node. subst (HoldsToEnd b.store.holds t.p) (sym node)
                    (old_side t.classes key c Q fs gs (fits_forms (record { class = c; fields = fs }) at_old) (fits_forms (record { class = c; fields = gs }) at_new) sides e has class inverse is s at (ap (get (entries t.classes key (record { class = c; fields = gs }))) (sym node) ∙ none)))),
              )),
        )
      where
        one : (a c : Key) → Some a ≡ Some c → a ≡ c
        one a c e = cc e

    guard_set_of : (m : Node) (v : Value) → get (entries t.classes key (record { class = c; fields = gs })) m ≡ Some v → get (entries t.classes key (record { class = c; fields = fs })) m ≡ None
        → KeysHeld (Some (record { class = c; fields = fs })) (record { class = c; fields = gs }) b → SidesHeld (Some (record { class = c; fields = fs })) (record { class = c; fields = gs }) b → HoldsGuard b.store.holds t.p (key_guard t.classes m)
    guard_set_of m v there none keys sides =
        let real = at_new.key_of in
        let in' = at_new.record_of.extent in
        let mine : owner t.classes m ≡ Some key = entries_belong t.classes key (record { class = c; fields = gs }) m v real in' there in
        let Q : Option Node → Type 0 = λ o. HoldsIf t o b in
        guard_held t.classes key real schema (record { class = c; fields = gs }) in' b.store.holds t.p m mine (value_and_came t.classes key (record { class = c; fields = gs }) m v there).0
        (λ i has unique subs is at. new_key t.classes key c Q fs gs (fits_forms (record { class = c; fields = fs }) at_old) (fits_forms (record { class = c; fields = gs }) at_new) keys i has unique subs is (ap (get (entries t.classes key (record { class = c; fields = fs }))) (sym at) ∙ none))
        (λ e has class inverse is s at node. subst (HoldsToEnd b.store.holds t.p) (sym node)
        (new_side t.classes key c Q fs gs (fits_forms (record { class = c; fields = fs }) at_old) (fits_forms (record { class = c; fields = gs }) at_new) sides e has class inverse is s at (ap (get (entries t.classes key (record { class = c; fields = fs }))) (sym node) ∙ none)))

  guard_born_of : (q : Record) → IsSoundAt t.classes key q → (b : Both) (m : Node) (v : Value) → get (entries t.classes key q) m ≡ Some v → KeysHeld None q b → SidesHeld None q b → HoldsGuard b.store.holds t.p (key_guard t.classes m)
  guard_born_of q at b m v there keys sides =
      let mine : owner t.classes m ≡ Some key = entries_belong t.classes key q m v at.key_of at.record_of.extent there in
      let Q : Option Node → Type 0 = λ o. HoldsIf t o b in
      guard_held t.classes key at.key_of schema q at.record_of.extent b.store.holds t.p m mine (value_and_came t.classes key q m v there).0
      (λ i has unique subs is at'. born_key t.classes key q.class Q q.fields (fits_forms q at) keys i has unique subs is)
      (λ e has class inverse is s at' node. subst (HoldsToEnd b.store.holds t.p) (sym node) (born_side t.classes key q.class Q q.fields (fits_forms q at) sides e has class inverse is s at'))

  -- ---- of one object

  module _ (q : Record) (at : IsSoundAt t.classes key q) where
    pub of_was : (old : Option Record) → WasSound t.classes key q old → IsOfClass q.class old
    of_was None h = tt
    of_was (Some r) h = h.0

    owns_kill : (old : Option Record) → WasSound t.classes key q old → (b : Both) (m : Node) → (v : Value) × (get (entries_if t.classes key old) m ≡ Some v) → get (entries t.classes key q) m ≡ None → HoldsRow b.store.holds t.p key → KeysHeld old q b → SidesHeld old q b
        → OwnsWritten t.classes b.store.holds t.p (Kill m)
    owns_kill None was b m there none row keys sides = absurd (cc (sym (get-empty node_cmp m) ∙ there.1))
    owns_kill (Some r) was b m there none row keys sides =
        let same : r ≡ record { class = q.class; fields = r.fields } = same_record r q.class was.0 in
        owns_kill_of q.class r.fields q.fields (subst (IsSoundAt t.classes key) same was.1) at b m there.0 (ap (λ x. get (entries t.classes key x) m) (sym same) ∙ there.1) none row
        (subst (λ x. KeysHeld (Some x) q b) same keys) (subst (λ x. SidesHeld (Some x) q b) same sides)

    guard_set : (old : Option Record) → WasSound t.classes key q old → (b : Both) (m : Node) (v : Value) → get (entries t.classes key q) m ≡ Some v → get (entries_if t.classes key old) m ≡ None → KeysHeld old q b → SidesHeld old q b
        → HoldsGuard b.store.holds t.p (key_guard t.classes m)
    guard_set None was b m v there none keys sides = guard_born_of q at b m v there keys sides
    guard_set (Some r) was b m v there none keys sides =
        let same : r ≡ record { class = q.class; fields = r.fields } = same_record r q.class was.0 in
        guard_set_of q.class r.fields q.fields (subst (IsSoundAt t.classes key) same was.1) at b m v there (ap (λ x. get (entries t.classes key x) m) (sym same) ∙ none)
        (subst (λ x. KeysHeld (Some x) q b) same keys) (subst (λ x. SidesHeld (Some x) q b) same sides)

    own_row_guard : (b : Both) (n : Node) → owner t.classes n ≡ Some key → HoldsRow b.store.holds t.p key → HoldsGuard b.store.holds t.p (row_guard t.classes n)
    own_row_guard b n own row = subst (λ o. HoldsGuard b.store.holds t.p (row_guarding t.classes n o)) (sym own) row

    -- what is held of the object when it is written
    pub record IsHeld (old : Option Record) (b : Both) : Type 0 where
      pub row : HoldsRow b.store.holds t.p key
      pub keys : KeysHeld old q b
      pub sides : SidesHeld old q b

    module _ (old : Option Record) (was : WasSound t.classes key q old) where
      abbrev Owns : Rattle.obj_kinds.specs.declared.op.Op.Op → Type 0
      Owns op = (b : Both) → IsHeld old b → OwnsWritten t.classes b.store.holds t.p op

      pub owns_entry_kills : Each (λ m. Owns (Kill m)) (edits_of t.classes key old (Some q)).entry_kills
      owns_entry_kills = subst (Each (λ m. Owns (Kill m))) (sym (edits_are_changes t.classes key old (Some q)).entry_kills)
          (each_to _ (λ m. Owns (Kill m)) (stale (listed (entries_if t.classes key old)) (listed (entries t.classes key q)))
          (λ m g b h. owns_kill old was b m g.0 g.1 h.row h.keys h.sides) (stale_gone (entries_if t.classes key old) (entries t.classes key q)))

      below_row : (n : Node) (way : List Rattle.obj_kinds.specs.declared.sub.Sub.Sub) → n ≡ below (data_node key) way → (m : Node) → covers n m ≡ true → covers (data_node key) m ≡ true
      below_row n way is m c =
          let z = covers_is n m c in
          ap (covers (data_node key)) (z.1 ∙ ap (λ (k : Node). below k z.0) is ∙ (λ i. record { global = (data_node key).global; subs = append_assoc (data_node key).subs way z.0 i }))
          ∙ covers_below (data_node key) (way ++ z.0)

      one : (a c : Key) → Some a ≡ Some c → a ≡ c
      one a c e = cc e

      pub owns_row_kills : Each (λ m. Owns (Kill m)) (edits_of t.classes key old (Some q)).row_kills
      owns_row_kills = subst (Each (λ m. Owns (Kill m))) (sym (edits_are_changes t.classes key old (Some q)).row_kills)
          (each_to _ (λ m. Owns (Kill m)) (stale (listed (rows_if t.classes key old)) (listed (rows_if t.classes key (Some q))))
          (λ n g b h.
          (let w = row_there t.classes key q.class at.key_of at.record_of.extent (schema.even key.extent) old n g.0.0 g.0.1 in (
            (key, row_owner t.classes key at.key_of n (ap (covers (data_node key)) w.1 ∙ covers_below (data_node key) w.0)),
            λ m k own cov.
                (let c = below_row n w.0 w.1 m cov in (
                  subst (HoldsRow b.store.holds t.p) (one key k (sym (row_owner t.classes key at.key_of m c) ∙ own)) h.row,
                  subst (HoldsGuard b.store.holds t.p) (sym (row_guard_free t.classes key at.key_of m c)) tt,
                )),
          ))) (stale_gone (rows_if t.classes key old) (rows_if t.classes key (Some q))))

      pub owns_row_sets : Each (λ (e : Node × Value). Owns (Set e.0 e.1)) (edits_of t.classes key old (Some q)).row_sets
      owns_row_sets = subst (Each (λ (e : Node × Value). Owns (Set e.0 e.1))) (sym (edits_are_changes t.classes key old (Some q)).row_sets)
          (each_to _ (λ (e : Node × Value). Owns (Set e.0 e.1)) (differing (listed (rows_if t.classes key old)) (listed (rows_if t.classes key (Some q))))
          (λ e g b h.
          (let w = row_there t.classes key q.class at.key_of at.record_of.extent (schema.even key.extent) (Some q) e.0 g.0.0 g.0.1 in
          let c : covers (data_node key) e.0 ≡ true = ap (covers (data_node key)) w.1 ∙ covers_below (data_node key) w.0 in
          let own = row_owner t.classes key at.key_of e.0 c in
          ((key, own), own_row_guard b e.0 own h.row, subst (HoldsGuard b.store.holds t.p) (sym (row_guard_free t.classes key at.key_of e.0 c)) tt)))
          (differing_new (rows_if t.classes key old) (rows_if t.classes key (Some q))))

      not_same : (o : Option Value) (v : Value) → v ≡ value.Str [] → ((w : Value) → o ≡ Some w → w ≡ value.Str []) → same_there o v ≡ false → o ≡ None
      not_same None v e f g = refl
      not_same (Some w) v e f g = absurd (cc (sym g ∙ ap (λ x. same_value x v) (f w refl ∙ sym e) ∙ same_value-itself v))

      old_empty : (o : Option Record) (m : Node) (w : Value) → get (entries_if t.classes key o) m ≡ Some w → w ≡ value.Str []
      old_empty None m w e = absurd (cc (sym (get-empty node_cmp m) ∙ e))
      old_empty (Some r) m w e = (value_and_came t.classes key r m w e).1

      new_empty : Each (λ (e : Node × Value). e.1 ≡ value.Str []) (edits_of t.classes key old (Some q)).entry_sets
      unfolding edits_of differing
      new_empty = each_to _ (λ (e : Node × Value). e.1 ≡ value.Str []) (differing (ordered_entries t.classes key old) (ordered_entries t.classes key (Some q))) (λ e h. h.0)
          (each_left (λ (e : Node × Value). e.1 ≡ value.Str []) (λ e. Rattle.std.proofs.Common.not (same_there (Rattle.std.specs.FinMap.find node_cmp e.0 (ordered_entries t.classes key old)) e.1)) (ordered_entries t.classes key (Some q))
          (each_put_all (λ v. v ≡ value.Str []) (valued_empty (entry_list t.classes key q)) (all_empty (entry_list t.classes key q))))

      pub owns_entry_sets : Each (λ (e : Node × Value). Owns (Set e.0 e.1)) (edits_of t.classes key old (Some q)).entry_sets
      owns_entry_sets =
          let are = (edits_are_changes t.classes key old (Some q)).entry_sets in
          subst (Each (λ (e : Node × Value). Owns (Set e.0 e.1))) (sym are)
          (each_to _ (λ (e : Node × Value). Owns (Set e.0 e.1)) (differing (listed (entries_if t.classes key old)) (listed (entries t.classes key q)))
          (λ e g b h.
          (let own : owner t.classes e.0 ≡ Some key = entries_belong t.classes key q e.0 g.0.0.0 at.key_of at.record_of.extent g.0.0.1 in
          let none = not_same (get (entries_if t.classes key old) e.0) e.1 g.1 (old_empty old e.0) g.0.1 in
          ((key, own), own_row_guard b e.0 own h.row, guard_set old was b e.0 g.0.0.0 g.0.0.1 none h.keys h.sides)))
          (and_each _ (λ (e : Node × Value). e.1 ≡ value.Str []) (differing (listed (entries_if t.classes key old)) (listed (entries t.classes key q)))
          (differing_new (entries_if t.classes key old) (entries t.classes key q))
          (subst (Each (λ (e : Node × Value). e.1 ≡ value.Str [])) are new_empty)))
