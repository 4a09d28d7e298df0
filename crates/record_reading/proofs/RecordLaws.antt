-- Nodes give a record exactly where they are its rows.
use Rattle.std.proofs.Common.{◌≡◌, ℕ, Bool, true, false, cond, not, List, [], ◌∷◌, Option, None, Some, is_some, option_map, IsTrue, refl, sym, ap, subst, ◌∙◌, ◌↔◌}
use Rattle.std.specs.List as list
use Rattle.std.specs.Ordering.{eq_by_cmp, is_eq}
use Rattle.std.proofs.lemmas.Cmp.{tied_itself}
use Rattle.std.specs.FinMap.{find, get, from_entries, from_sorted, entries as listed, is_sorted, same_map, get-entries, get-from_entries, get-from_sorted, entries-from_sorted}
use Rattle.obj_kinds.specs.declared.name.ClassName.{ClassName}
use Rattle.obj_kinds.specs.declared.node.Node.{Node}
use Rattle.obj_kinds.specs.declared.sub.Sub.{Sub}
use Rattle.obj_kinds.specs.declared.value.Value.{Value}
use Rattle.obj_kinds.specs.declared.value.Value.TheVariants as value
use Rattle.obj_kinds.specs.declared.value.Value.TheOpen.{Value-F}
use Rattle.obj_kinds.specs.declared.value.Value.TheViews.{out-Value}
use Rattle.obj_kinds.specs.Order.{node_cmp}
use Rattle.obj_kinds.proofs.OrderLemmas.{node_total, node_exact}
use Rattle.obj_kinds.proofs.Sorted.{truth}
use Rattle.schema_kinds.specs.declared.class.Class.{Class}
use Rattle.schema_kinds.specs.declared.key.Key.{Key}
use Rattle.schema_kinds.specs.declared.record.Field.{Field}
use Rattle.schema_kinds.specs.declared.record.Record.{Record}
use Rattle.schema_kinds.specs.Classes.{extent_of}
use Rattle.global_tree.specs.Below.{or_else}
use Rattle.global_tree.proofs.MapLaws.{one_key}
use Rattle.record_layout.specs.Shapes.{AreOfForms}
use Rattle.record_layout.specs.Layout.{layout_of, IsLaidOut}
use Rattle.record_layout.specs.Rows.{data_node, below, marker, row_list, rows}
use Rattle.record_layout.specs.Reading.{Reading, Read, Damaged, Source, then_read, or_damaged, damaged_at, read_fields}
use Rattle.record_layout.specs.Records.{IsAmong, IsReadWhole, IsTrueSource, HaveDifferentNames}
use Rattle.record_layout.specs.Schemas.{IsStorable}
use Rattle.record_layout.proofs.ReadLaws.{then_read-is, or_damaged-is}
use Rattle.record_layout.proofs.RecordLaws.{read_whole, rows_are_read, among-of}
use Rattle.record_layout.proofs.ReadLaws.{read_where_they_stand}
use Rattle.record_layout.proofs.SourceLaws as source
use Rattle.record_layout.proofs.ItemLaws.{str-out, list-out}
use Rattle.record_layout.proofs.SchemaLaws.{storable_is_laid_out}
use Rattle.storage_map.specs.Markers.{row_class}
use Rattle.storage_map.proofs.ChangeLaws.{listed_rises}
use Rattle.record_reading.specs.Rows.{source_in, items_behind, read_as, read_by_row, read_record}
use Rattle.record_reading.specs.Damage.{has_legal_entries, is_strange, past_limit, strange_node, over, damage}
use Rattle.record_reading.specs.Laws.{IsStoredAt}
use Rattle.record_reading.proofs.KeyLaws.{NodePairs, true_source}
use Rattle.record_reading.proofs.DamageLaws.{damage_read}
use Rattle.record_reading.proofs.MarkerLaws.{one_marker, list_behind, class_is, is_class}

none_first : {A : Type 0} (a b : Option A) → or_else a b ≡ None → a ≡ None
none_first None b h = refl
none_first (Some a) b h = cc

none_second : {A : Type 0} (a b : Option A) → or_else a b ≡ None → b ≡ None
none_second None b h = h
none_second (Some a) b h = cc

legal_none : {A : Type 0} (b : Bool) (n : A) → cond b None (Some n) ≡ None → b ≡ true
legal_none true n h = refl
legal_none false n h = cc

-- where no node is strange, each that is found is in the rows
none_strange : (classes : List Class) (key : Key) (r : Record) (nodes : NodePairs) → list.find (is_strange classes key r) nodes ≡ None → (n : Node) (v : Value) → find node_cmp n nodes ≡ Some v → is_some (find node_cmp n (listed (rows classes key r))) ≡ true
none_strange classes key r [] none n v h = cc
none_strange classes key r (e ∷ es) none n v h = by (is_strange classes key r e) refl (eq_by_cmp node_cmp n e.0) refl none h (none_strange classes key r es)
  where
    turned : (b : Bool) → not b ≡ false → b ≡ true
    turned true k = refl
    turned false k = cc

    by : (s : Bool) → is_strange classes key r e ≡ s → (b : Bool) → eq_by_cmp node_cmp n e.0 ≡ b → cond s (Some e) (list.find (is_strange classes key r) es) ≡ None → cond b (Some e.1) (find node_cmp n es) ≡ Some v
        → (list.find (is_strange classes key r) es ≡ None → (m : Node) (w : Value) → find node_cmp m es ≡ Some w → is_some (find node_cmp m (listed (rows classes key r))) ≡ true)
        → is_some (find node_cmp n (listed (rows classes key r))) ≡ true
    by true s b g k found more = cc
    by false s true g k found more = ap (λ m. is_some (find node_cmp m (listed (rows classes key r)))) (one_key node_exact n e.0 g) ∙ turned _ s
    by false s false g k found more = more k n v found

has_first : (e : Node × Value) (es : NodePairs) → is_some (find node_cmp e.0 (e ∷ es)) ≡ true
has_first e es = ap (λ r. is_some (cond (is_eq r) (Some e.1) (find node_cmp e.0 es))) (tied_itself node_total e.0)

has_more : (m : Node) (e : Node × Value) (es : NodePairs) → is_some (find node_cmp m es) ≡ true → is_some (find node_cmp m (e ∷ es)) ≡ true
has_more m e es h = by (eq_by_cmp node_cmp m e.0)
  where
    by : (b : Bool) → is_some (cond b (Some e.1) (find node_cmp m es)) ≡ true
    by true = refl
    by false = h

-- among nodes of the rows none is strange
known_nodes : (classes : List Class) (key : Key) (r : Record) (es : NodePairs) → ((m : Node) → is_some (find node_cmp m es) ≡ true → is_some (find node_cmp m (listed (rows classes key r))) ≡ true) → list.find (is_strange classes key r) es ≡ None
known_nodes classes key r [] known = refl
known_nodes classes key r (e ∷ es) known =
    let here : is_strange classes key r e ≡ false = ap not (known e.0 (has_first e es)) in
    ap (λ b. cond b (Some e) (list.find (is_strange classes key r) es)) here ∙ known_nodes classes key r es (λ m h. known m (has_more m e es h))

-- nodes in rising order are the entries of their map
listed_back : (nodes : NodePairs) → IsTrue (is_sorted node_cmp nodes) → listed (from_entries {R = node_cmp} nodes) ≡ nodes
listed_back nodes rising =
    ap listed (same_map node_total node_exact (from_entries nodes) (from_sorted nodes) (λ q. get-from_entries node_total nodes q ∙ sym (get-from_sorted node_cmp nodes q (truth (is_sorted node_cmp nodes) rising))))
    ∙ entries-from_sorted node_cmp nodes (truth (is_sorted node_cmp nodes) rising)

back_listed : (classes : List Class) (key : Key) (r : Record) → from_entries {R = node_cmp} (listed (rows classes key r)) ≡ rows classes key r
back_listed classes key r = same_map node_total node_exact (from_entries (listed (rows classes key r))) (rows classes key r) (λ q. get-from_entries node_total (listed (rows classes key r)) q ∙ sym (get-entries (rows classes key r) q))

among : (classes : List Class) (key : Key) (r : Record) (n : Node) → is_some (find node_cmp n (listed (rows classes key r))) ≡ true → IsAmong n (row_list classes key r)
unfolding rows
among classes key r n h = by (find node_cmp n (row_list classes key r)) refl
  where
    by : (o : Option Value) → find node_cmp n (row_list classes key r) ≡ o → IsAmong n (row_list classes key r)
    by (Some v) e = among-of (row_list classes key r) n v e
    by None e = let none : is_some (find node_cmp n (listed (rows classes key r))) ≡ false = ap is_some (sym (get-entries (rows classes key r) n) ∙ get-from_entries node_total (row_list classes key r) n ∙ e) in cc

-- what was read of a row
record IsReadFrom (classes : List Class) (key : Key) (nodes : NodePairs) (r : Record) : Type 0 where
  row : Value
  there : find node_cmp (data_node key) nodes ≡ Some row
  class : row_class classes key.extent row ≡ Some r.class
  read : read_fields classes (source_in nodes (data_node key)) (layout_of classes r.class) (items_behind row) ≡ Read r.fields

read_from : (classes : List Class) (key : Key) (nodes : NodePairs) (r : Record) → read_record classes key nodes ≡ Read r → IsReadFrom classes key nodes r
unfolding read_record
read_from classes key nodes r h =
    let s = source_in nodes (data_node key) in
    let p = then_read-is (or_damaged [] (find node_cmp (data_node key) nodes)) (λ row. read_by_row classes key.extent s row) r h in
    let q = then_read-is (or_damaged [] (row_class classes key.extent p.0)) (λ class. read_as classes s class (items_behind p.0)) r p.2 in
    let f = then_read-is (read_fields classes s (layout_of classes q.0) (items_behind p.0)) (λ fields. Read (record { class = q.0; fields = fields })) r q.2 in
    let same : record { class = q.0; fields = f.0 } ≡ r = cc in
    subst (IsReadFrom classes key nodes) same
    record {
      row = p.0;
      there = or_damaged-is [] (find node_cmp (data_node key) nodes) p.0 p.1;
      class = or_damaged-is [] (row_class classes key.extent p.0) q.0 q.1;
      read = f.1;
    }

from_read : (classes : List Class) (key : Key) (nodes : NodePairs) (r : Record) → IsReadFrom classes key nodes r → read_record classes key nodes ≡ Read r
unfolding read_record
from_read classes key nodes r h = rw (h.there, h.class, h.read) refl

module _ (classes : List Class) (key : Key) (nodes : NodePairs) (r : Record) (rising : IsTrue (is_sorted node_cmp nodes)) (storable : IsStorable classes r.class) where
  -- the record is read whole from nodes that are no more than its rows
  read_there : IsReadFrom classes key nodes r → ((n : Node) (v : Value) → find node_cmp n nodes ≡ Some v → is_some (find node_cmp n (listed (rows classes key r))) ≡ true)
      → IsReadWhole classes key (from_entries nodes) (source_in nodes (data_node key)) r
  read_there from known =
      let true_one = true_source nodes (data_node key) rising in
      let marked = class_is classes key.extent r.class from.row from.class in
      record {
        values = true_one.values;
        rising = true_one.rising;
        items = items_behind from.row;
        row = get-from_entries node_total nodes (data_node key) ∙ from.there ∙ ap Some marked.0;
        read = from.read;
        only = λ n v h. among classes key r n (known n v (sym (get-from_entries node_total nodes n) ∙ h));
      }

  pub nodes_are_rows : damage classes key nodes ≡ None → read_record classes key nodes ≡ Read r → IsStoredAt classes key r × (nodes ≡ listed (rows classes key r))
  nodes_are_rows none h =
      let clear : over classes key nodes r ≡ None = sym (damage_read classes key nodes r h) ∙ none in
      let limit = none_first (past_limit classes key r) (strange_node classes key nodes r) clear in
      let strange = none_second (past_limit classes key r) (strange_node classes key nodes r) clear in
      let legal : has_legal_entries classes key r ≡ true = legal_none (has_legal_entries classes key r) (data_node key) limit in
      let from = read_from classes key nodes r h in
      let none_is : list.find (is_strange classes key r) nodes ≡ None = no_map (list.find (is_strange classes key r) nodes) strange in
      let whole = read_there from (none_strange classes key r nodes none_is) in
      let laid = (storable_is_laid_out classes r.class storable).0 in
      let is = read_whole classes key (from_entries nodes) (source_in nodes (data_node key)) r laid whole in
      let fields = ((read_where_they_stand classes (source_in nodes (data_node key)) (layout_of classes r.class) whole.items r.fields laid whole.rising).0 whole.read).0 in
      (record { extent = (class_is classes key.extent r.class from.row from.class).1; fields = fields; entries = legal }, sym (listed_back nodes rising) ∙ ap listed is)
    where
      no_map : (o : Option (Node × Value)) → option_map (λ e. e.0) o ≡ None → o ≡ None
      no_map None e = refl
      no_map (Some e) k = cc

  pub rows_are_nodes : IsStoredAt classes key r → nodes ≡ listed (rows classes key r) → (damage classes key nodes ≡ None) × (read_record classes key nodes ≡ Read r)
  rows_are_nodes stored is =
      let globals : rows classes key r ≡ from_entries nodes = sym (back_listed classes key r) ∙ ap from_entries (sym is) in
      let laid = storable_is_laid_out classes r.class storable in
      let true_one : IsTrueSource (rows classes key r) (data_node key) (source_in nodes (data_node key)) = subst (λ g. IsTrueSource g (data_node key) (source_in nodes (data_node key))) (sym globals) (true_source nodes (data_node key) rising) in
      let whole : IsReadWhole classes key (rows classes key r) (source_in nodes (data_node key)) r =
      rows_are_read classes key (source_in nodes (data_node key)) r laid.0 stored.fields (source.true_source classes key (source_in nodes (data_node key)) r laid.0 laid.1 stored.fields true_one) in
      let row : Value = value.List (value.Str (marker key.extent r.class) ∷ whole.items) in
      let there : find node_cmp (data_node key) nodes ≡ Some row = sym (get-from_entries node_total nodes (data_node key)) ∙ ap (λ g. get g (data_node key)) (sym globals) ∙ whole.row in
      let behind : items_behind row ≡ whole.items = list_behind (value.Str (marker key.extent r.class)) whole.items in
      let class : row_class classes key.extent row ≡ Some r.class = is_class classes key.extent r.class row (ap (λ vs. value.List (value.Str (marker key.extent r.class) ∷ vs)) (sym behind)) stored.extent in
      let from : IsReadFrom classes key nodes r = record { row = row; there = there; class = class; read = ap (read_fields classes (source_in nodes (data_node key)) (layout_of classes r.class)) behind ∙ whole.read } in
      let h = from_read classes key nodes r from in
      (damage_read classes key nodes r h ∙ ap (λ b. or_else (cond b None (Some (data_node key))) (strange_node classes key nodes r)) stored.entries ∙ (ap (option_map (λ (e : Node × Value). e.0)) (known_nodes classes key r nodes (λ m k. ap (λ (ns : NodePairs). is_some (find node_cmp m ns)) (sym is) ∙ k))), h)

-- rows tell their record
pub rows_tell : (classes : List Class) (key : Key) (r q : Record) → IsStorable classes r.class → IsStorable classes q.class
    → AreOfForms classes (layout_of classes r.class).forms r.fields → AreOfForms classes (layout_of classes q.class).forms q.fields → rows classes key r ≡ rows classes key q → r ≡ q
rows_tell classes key r q storable also fields others same =
    let nodes : NodePairs = listed (rows classes key r) in
    let s : Source = source_in nodes (data_node key) in
    let back : IsTrueSource (rows classes key r) (data_node key) s = subst (λ g. IsTrueSource g (data_node key) s) (back_listed classes key r) (true_source nodes (data_node key) (listed_rises (rows classes key r))) in
    let laid = storable_is_laid_out classes r.class storable in
    let laid' = storable_is_laid_out classes q.class also in
    let first = rows_are_read classes key s r laid.0 fields (source.true_source classes key s r laid.0 laid.1 fields back) in
    let second = rows_are_read classes key s q laid'.0 others (source.true_source classes key s q laid'.0 laid'.1 others (subst (λ g. IsTrueSource g (data_node key) s) same back)) in
    let row : Some (value.List (value.Str (marker key.extent r.class) ∷ first.items)) ≡ Some (value.List (value.Str (marker key.extent q.class) ∷ second.items)) =
    sym first.row ∙ ap (λ g. get g (data_node key)) same ∙ second.row in
    let lists = one_row (marker key.extent r.class) first.items (marker key.extent q.class) second.items row in
    let class : r.class ≡ q.class = one_marker key.extent r.class q.class lists.0 in
    let read : Read r.fields ≡ Read q.fields = sym first.read ∙ ap (λ c. read_fields classes s (layout_of classes c) first.items) class ∙ ap (read_fields classes s (layout_of classes q.class)) lists.1 ∙ second.read in
    let parts : r.fields ≡ q.fields = one_read r.fields q.fields read in
    λ i. record { class = class i; fields = parts i }
  where
    one_read : (xs ys : List Field) → Read xs ≡ Read ys → xs ≡ ys
    one_read xs ys e = cc

    one_row : (a : List ℕ) (vs : List Value) (b : List ℕ) (ws : List Value) → Some (value.List (value.Str a ∷ vs)) ≡ Some (value.List (value.Str b ∷ ws)) → (a ≡ b) × (vs ≡ ws)
    one_row a vs b ws e =
        let l : value.List (value.Str a ∷ vs) ≡ value.List (value.Str b ∷ ws) = cc in
        let o : Value-F.List (value.Str a ∷ vs) ≡ Value-F.List (value.Str b ∷ ws) = sym (list-out (value.Str a ∷ vs)) ∙ ap out-Value l ∙ list-out (value.Str b ∷ ws) in
        let t : value.Str a ≡ value.Str b = cc in
        let u : Value-F.Str a ≡ Value-F.Str b = sym (str-out a) ∙ ap out-Value t ∙ str-out b in
        let marks : a ≡ b = cc in
        let rest : vs ≡ ws = cc in
        (marks, rest)
