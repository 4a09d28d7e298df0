-- Kills and then sets one after another are all of them at once.
use Rattle.std.proofs.Common.{Ordering, Less, Equal, Greater, ◌≡◌, Bool, true, false, cond, not, ◌||◌, List, [], ◌∷◌, ◌++◌, map, filter, Option, None, Some, is_some, IsTrue, refl, sym, ap, ◌∙◌, ◌⊎◌, inl, inr}
use Rattle.std.specs.List.{list_any}
use Rattle.std.specs.Ordering.{eq_by_cmp, is_eq, is_lt}
use Rattle.std.specs.FinMap.{find, get, empty, entries as listed, is_sorted, get-insert, get-retain_keys, get-entries, get-from_entries, get-empty}
use Rattle.std.specs.FinMap.Entries.{below_all}
use Rattle.std.proofs.lemmas.List.{map-append}
use Rattle.obj_kinds.specs.declared.node.Node.{Node}
use Rattle.obj_kinds.specs.declared.sub.Sub.{Sub}
use Rattle.obj_kinds.specs.declared.value.Value.{Value}
use Rattle.obj_kinds.specs.declared.op.Op.{Op}
use Rattle.obj_kinds.specs.declared.op.Op.TheVariants.{Kill}
use Rattle.obj_kinds.specs.declared.op.Pid.{Pid}
use Rattle.obj_kinds.specs.Order.{node_cmp, covers}
use Rattle.obj_kinds.proofs.OrderLemmas.{node_total, node_exact}
use Rattle.obj_kinds.proofs.Sorted.{first, second}
use Rattle.schema_kinds.specs.declared.class.Class.{Class}
use Rattle.schema_kinds.specs.declared.key.Key.{Key}
use Rattle.schema_kinds.specs.declared.record.Record.{Record}
use Rattle.global_tree.proofs.MapLaws.{one_key}
use Rattle.record_layout.specs.Layout.{layout_of}
use Rattle.record_layout.specs.Rows.{data_node, below, marker, nodes_below, row_list, rows}
use Rattle.storage_map.specs.Changes.{same_there, differing, rows_if, entries_if, or_set, edited}
use Rattle.storage_map.specs.Entries.{entries}
use Rattle.storage_map.proofs.ChangeLaws.{NodePairs, listed_rises, differing_rise}
use Rattle.world_images.proofs.ImageLaws.{row_way}
use Rattle.store_core.specs.Machine.{State, after, turn}
use Rattle.object_calls.specs.Edits.{edits_of}
use Rattle.object_calls.proofs.EditLaws.{edits_are_changes}
use Rattle.read_laws.proofs.ShownLaws.{no_entry}
use Rattle.image_laws.specs.Played.{played, set_of, WritesAreWritten}

played-append : (s : State) (p : Pid) (xs ys : List Op) → played s p (xs ++ ys) ≡ played (played s p xs) p ys
played-append s p [] ys = refl
played-append s p (x ∷ xs) ys = played-append (after s p x) p xs ys

-- ---- kills

pub killed-globals : (s : State) (p : Pid) (k n : Node) → get (after s p (Kill k)).globals n ≡ cond (covers k n) None (get s.globals n)
unfolding after turn
killed-globals s p k n = get-retain_keys s.globals (λ m. not (covers k m)) n (λ x e. ap (λ m. not (covers k m)) (sym (node_exact n x e))) ∙ by (covers k n)
  where
    by : (b : Bool) → cond (not b) (get s.globals n) None ≡ cond b None (get s.globals n)
    by true = refl
    by false = refl

kills : (s : State) (p : Pid) (ks : List Node) (n : Node) → get (played s p (map Kill ks)).globals n ≡ cond (list_any (λ k. covers k n) ks) None (get s.globals n)
kills s p [] n = refl
kills s p (k ∷ ks) n = kills (after s p (Kill k)) p ks n ∙ ap (cond (list_any (λ j. covers j n) ks) None) (killed-globals s p k n) ∙ by (covers k n) (list_any (λ j. covers j n) ks)
  where
    by : (a b : Bool) → cond b None (cond a None (get s.globals n)) ≡ cond (a || b) None (get s.globals n)
    by true true = refl
    by true false = refl
    by false true = refl
    by false false = refl

-- ---- sets

pub set-globals : (s : State) (p : Pid) (e : Node × Value) (n : Node) → get (after s p (set_of e)).globals n ≡ cond (eq_by_cmp node_cmp n e.0) (Some e.1) (get s.globals n)
unfolding after turn
set-globals s p e n = get-insert node_total s.globals e.0 e.1 n

-- behind a node it stands no more
none-later : (m : Node) (es : NodePairs) → IsTrue (below_all node_cmp m es) → find node_cmp m es ≡ None
none-later m [] h = refl
none-later m (e ∷ es) h = ap (λ b. cond b (Some e.1) (find node_cmp m es)) (less (node_cmp m e.0) refl (first _ _ h)) ∙ none-later m es (second _ _ h)
  where
    less : (o : Ordering) → node_cmp m e.0 ≡ o → IsTrue (is_lt o) → is_eq (node_cmp m e.0) ≡ false
    less Less e h = ap is_eq e
    less Equal e h = cc
    less Greater e h = cc

sets : (s : State) (p : Pid) (es : NodePairs) (n : Node) → IsTrue (is_sorted node_cmp es) → get (played s p (map set_of es)).globals n ≡ or_set (find node_cmp n es) (get s.globals n)
sets s p [] n h = refl
sets s p (e ∷ es) n h = sets (after s p (set_of e)) p es n (second _ _ h) ∙ ap (or_set (find node_cmp n es)) (set-globals s p e n) ∙ by (eq_by_cmp node_cmp n e.0) refl
  where
    by : (b : Bool) → eq_by_cmp node_cmp n e.0 ≡ b → or_set (find node_cmp n es) (cond b (Some e.1) (get s.globals n)) ≡ or_set (cond b (Some e.1) (find node_cmp n es)) (get s.globals n)
    by true is =
        let none : find node_cmp n es ≡ None = ap (λ m. find node_cmp m es) (one_key node_exact n e.0 is) ∙ none-later e.0 es (first _ _ h) in
        ap (λ o. or_set o (Some e.1)) none
    by false is = refl

-- ---- rows and entries have no node in common

kept-found : (n : Node) (test : Node × Value → Bool) (es : NodePairs) (v : Value) → find node_cmp n (filter test es) ≡ Some v → is_some (find node_cmp n es) ≡ true
kept-found n test [] v h = cc
kept-found n test (e ∷ es) v h = by (test e) (eq_by_cmp node_cmp n e.0) h (kept-found n test es v)
  where
    shown : (b : Bool) → (b ≡ true) ⊎ (is_some (find node_cmp n es) ≡ true) → is_some (cond b (Some e.1) (find node_cmp n es)) ≡ true
    shown true h = refl
    shown false (inl g) = cc
    shown false (inr g) = g

    by : (t b : Bool) → find node_cmp n (cond t (e ∷ filter test es) (filter test es)) ≡ Some v → (find node_cmp n (filter test es) ≡ Some v → is_some (find node_cmp n es) ≡ true) → is_some (cond (eq_by_cmp node_cmp n e.0) (Some e.1) (find node_cmp n es)) ≡ true
    by true b g rest = here (eq_by_cmp node_cmp n e.0) g
      where
        here : (c : Bool) → cond c (Some e.1) (find node_cmp n (filter test es)) ≡ Some v → is_some (cond c (Some e.1) (find node_cmp n es)) ≡ true
        here true k = refl
        here false k = rest k
    by false b g rest = shown (eq_by_cmp node_cmp n e.0) (inr (rest g))

find-append : (n : Node) (xs ys : NodePairs) (base : Option Value) → ((v w : Value) → find node_cmp n xs ≡ Some v → find node_cmp n ys ≡ Some w → ⊥)
    → or_set (find node_cmp n ys) (or_set (find node_cmp n xs) base) ≡ or_set (find node_cmp n (xs ++ ys)) base
find-append n xs ys base apart = both (find node_cmp n xs) refl (find node_cmp n ys) refl ∙ ap (λ o. or_set o base) (sym (joined xs))
  where
    joined : (zs : NodePairs) → find node_cmp n (zs ++ ys) ≡ or_set (find node_cmp n zs) (find node_cmp n ys)
    joined [] = refl
    joined (z ∷ zs) = by (eq_by_cmp node_cmp n z.0) (joined zs)
      where
        by : (b : Bool) → find node_cmp n (zs ++ ys) ≡ or_set (find node_cmp n zs) (find node_cmp n ys) → cond b (Some z.1) (find node_cmp n (zs ++ ys)) ≡ or_set (cond b (Some z.1) (find node_cmp n zs)) (find node_cmp n ys)
        by true rest = refl
        by false rest = rest

    both : (a : Option Value) → find node_cmp n xs ≡ a → (b : Option Value) → find node_cmp n ys ≡ b → or_set b (or_set a base) ≡ or_set (or_set a b) base
    both None e None g = refl
    both None e (Some w) g = refl
    both (Some v) e None g = refl
    both (Some v) e (Some w) g = absurd (apart v w e g)

row_at : (classes : List Class) (key : Key) (r : Record) (n : Node) (v : Value) → get (rows classes key r) n ≡ Some v → (way : List Sub) × (n ≡ below (data_node key) way)
unfolding rows row_list
row_at classes key r n v h =
    let ways = nodes_below (layout_of classes r.class) (marker key.extent r.class) r.fields in
    row_way (data_node key) ways n v (sym (get-from_entries node_total (map (λ e. (below (data_node key) e.0, e.1)) ways) n) ∙ h)

module _ (classes : List Class) (key : Key) (n : Node) where
  row-stands : (new : Option Record) → is_some (find node_cmp n (listed (rows_if classes key new))) ≡ true → (way : List Sub) × (n ≡ below (data_node key) way)
  row-stands new h = by new (ap is_some (get-entries (rows_if classes key new) n) ∙ h)
    where
      there : (r : Record) (o : Option Value) → get (rows classes key r) n ≡ o → is_some o ≡ true → (way : List Sub) × (n ≡ below (data_node key) way)
      there r None e k = cc
      there r (Some v) e k = row_at classes key r n v e

      by : (new : Option Record) → is_some (get (rows_if classes key new) n) ≡ true → (way : List Sub) × (n ≡ below (data_node key) way)
      by None k = let none : get (empty {K = Node} {X = Value} {R = node_cmp}) n ≡ None = get-empty node_cmp n in let no_value : is_some (get (empty {K = Node} {X = Value} {R = node_cmp}) n) ≡ false = ap is_some none in cc
      by (Some r) k = there r (get (rows classes key r) n) refl k

  entry-stands : (new : Option Record) (way : List Sub) → n ≡ below (data_node key) way → is_some (find node_cmp n (listed (entries_if classes key new))) ≡ true → ⊥
  entry-stands new way at h = by new (ap is_some (get-entries (entries_if classes key new) n) ∙ h)
    where
      by : (new : Option Record) → is_some (get (entries_if classes key new) n) ≡ true → ⊥
      by None k = let no_value : is_some (get (empty {K = Node} {X = Value} {R = node_cmp}) n) ≡ false = ap is_some (get-empty node_cmp n) in cc
      by (Some r) k = let no_value : is_some (get (entries classes key r) n) ≡ false = ap is_some (ap (get (entries classes key r)) at ∙ no_entry classes key key r way) in cc

  module _ (old new : Option Record) where
    abbrev row_sets : NodePairs
    row_sets = differing (listed (rows_if classes key old)) (listed (rows_if classes key new))

    abbrev entry_sets : NodePairs
    entry_sets = differing (listed (entries_if classes key old)) (listed (entries_if classes key new))

    no-both : (v w : Value) → find node_cmp n row_sets ≡ Some v → find node_cmp n entry_sets ≡ Some w → ⊥
    unfolding differing
    no-both v w a b =
        let row = row-stands new (kept-found n (λ e. not (same_there (find node_cmp e.0 (listed (rows_if classes key old))) e.1)) (listed (rows_if classes key new)) v a) in
        entry-stands new row.0 row.1 (kept-found n (λ e. not (same_there (find node_cmp e.0 (listed (entries_if classes key old))) e.1)) (listed (entries_if classes key new)) w b)

    -- all sets, the rows' first
    all-sets : (s : State) (p : Pid) → get (played s p (map set_of (row_sets ++ entry_sets))).globals n ≡ or_set (find node_cmp n (row_sets ++ entry_sets)) (get s.globals n)
    all-sets s p =
        let rows_rise = differing_rise (listed (rows_if classes key old)) (listed (rows_if classes key new)) (listed_rises (rows_if classes key new)) in
        let entries_rise = differing_rise (listed (entries_if classes key old)) (listed (entries_if classes key new)) (listed_rises (entries_if classes key new)) in
        ap (λ ops. get (played s p ops).globals n) (map-append set_of row_sets entry_sets)
        ∙ ap (λ (t : State). get t.globals n) (played-append s p (map set_of row_sets) (map set_of entry_sets))
        ∙ sets (played s p (map set_of row_sets)) p entry_sets n entries_rise
        ∙ ap (or_set (find node_cmp n entry_sets)) (sets s p row_sets n rows_rise)
        ∙ find-append n row_sets entry_sets (get s.globals n) no-both

    -- all of it
    written : (s : State) (p : Pid) (kills' : List Node) → get (played s p (map Kill kills' ++ map set_of (row_sets ++ entry_sets))).globals n ≡ edited kills' (row_sets ++ entry_sets) s.globals n
    written s p ks =
        ap (λ (t : State). get t.globals n) (played-append s p (map Kill ks) (map set_of (row_sets ++ entry_sets)))
        ∙ all-sets (played s p (map Kill ks)) p
        ∙ ap (or_set (find node_cmp n (row_sets ++ entry_sets))) (kills s p ks n)

pub writes_are_written : WritesAreWritten
writes_are_written classes key old new s p n =
    let edits = edits_of classes key old new in
    let are = edits_are_changes classes key old new in
    ap (λ es. get (played s p (map Kill (edits.entry_kills ++ edits.row_kills) ++ map set_of es)).globals n) (both are.row_sets are.entry_sets)
    ∙ written classes key n old new s p (edits.entry_kills ++ edits.row_kills)
    ∙ ap (λ es. edited (edits.entry_kills ++ edits.row_kills) es s.globals n) (sym (both are.row_sets are.entry_sets))
  where
    both : {a b c d : NodePairs} → a ≡ b → c ≡ d → a ++ c ≡ b ++ d
    both e g = rw (e, g) refl
