-- The four cases of damage, one after the other.
use Rattle.std.proofs.Common.{◌≡◌, ◌&&◌, List, [], ◌∷◌, map, Option, None, Some, is_some, cond, option_map, refl, sym, ap, ◌∙◌}
use Rattle.std.proofs.lemmas.List.{append-nil}
use Rattle.std.specs.List.{list_all}
use Rattle.std.specs.FinMap as fin
use Rattle.obj_kinds.specs.declared.node.Node.{Node}
use Rattle.obj_kinds.specs.declared.value.Value.{Value}
use Rattle.obj_kinds.specs.Limits.{is_legal_node}
use Rattle.obj_kinds.specs.Order.{node_cmp}
use Rattle.schema_kinds.specs.declared.class.Class.{Class}
use Rattle.schema_kinds.specs.declared.key.Key.{Key}
use Rattle.schema_kinds.specs.declared.record.Record.{Record}
use Rattle.global_tree.specs.Below.{or_else}
use Rattle.record_layout.specs.Rows.{data_node, below}
use Rattle.record_layout.specs.Reading.{Reading, Read, Damaged, damaged_at, then_read, or_damaged}
use Rattle.storage_map.specs.Entries.{valued_empty}
use Rattle.record_reading.specs.declared.error.FormError.{FormError}
use Rattle.record_reading.specs.declared.error.FormError.TheVariants as form
use Rattle.record_reading.specs.Rows.{source_in, read_by_row, read_record}
use Rattle.record_reading.specs.Damage.{missing_row, unread_node, over, over_read, damage}
use Rattle.record_reading.specs.Answers.{Names}

pub all_legal : (nodes : List Node) → list_all (λ e. is_legal_node e.0) (valued_empty nodes) ≡ list_all is_legal_node nodes
all_legal [] = refl
all_legal (n ∷ ns) = ap (λ b. is_legal_node n && b) (all_legal ns)

module _ (classes : List Class) (key : Key) (nodes : List (Node × Value)) where
  -- where a record was read the row is there
  pub damage_read : (r : Record) → read_record classes key nodes ≡ Read r → damage classes key nodes ≡ over classes key nodes r
  unfolding damage read_record
  damage_read r h = by (fin.find node_cmp (data_node key) nodes) refl h
    where
      by : (o : Option Value) → fin.find node_cmp (data_node key) nodes ≡ o → then_read (or_damaged [] o) (λ row. read_by_row classes key.extent (source_in nodes (data_node key)) row) ≡ Read r → damage classes key nodes ≡ over classes key nodes r
      by None e k = cc
      by (Some row) e k = rw (e, k) refl

  pub damage_unread : (e : FormError) → Names (unread_node classes key nodes) e → Names (damage classes key nodes) e
  unfolding damage read_record
  damage_unread form.NoMemory h = h
  damage_unread (form.Damaged n) h = by (fin.find node_cmp (data_node key) nodes) refl (unread_node classes key nodes) refl h
    where
      row_below : below (data_node key) [] ≡ data_node key
      row_below = λ i. record { global = (data_node key).global; subs = append-nil (data_node key).subs i }

      by : (o : Option Value) → fin.find node_cmp (data_node key) nodes ≡ o → (u : Option Node) → unread_node classes key nodes ≡ u → u ≡ Some n → damage classes key nodes ≡ Some n
      by None e u k h' =
          let stops : unread_node classes key nodes ≡ Some (below (data_node key) []) = rw e refl in
          let same : below (data_node key) [] ≡ n = one (sym stops ∙ k ∙ h') in
          rw e (ap Some (sym row_below ∙ same))
        where
          one : Some (below (data_node key) []) ≡ Some n → below (data_node key) [] ≡ n
          one d = cc
      by (Some row) e u k h' =
          ap (λ o. or_else (cond (is_some o) None (Some (data_node key))) (or_else (unread_node classes key nodes) (over_read classes key nodes (read_record classes key nodes)))) e
          ∙ ap (λ d. or_else d (over_read classes key nodes (read_record classes key nodes))) (k ∙ h')
