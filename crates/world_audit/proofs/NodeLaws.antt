-- The nodes of a key among all nodes, and what they give.
use Rattle.std.proofs.Common.{◌≡◌, Bool, true, false, cond, ◌&&◌, List, [], ◌∷◌, Option, None, Some, IsTrue, option_map, refl, sym, ap, subst, ◌∙◌}
use Rattle.std.specs.List.{list_all}
use Rattle.std.specs.Ordering.{eq_by_cmp, is_eq}
use Rattle.std.specs.FinMap.{find, get, from_entries, entries as listed, entries_sorted, is_sorted, same_map, get-entries, get-from_entries}
use Rattle.std.specs.FinMap.Entries.{find-where_key, same_entries}
use Rattle.std.proofs.lemmas.Cmp.{tied_itself}
use Rattle.obj_kinds.specs.declared.node.Node.{Node}
use Rattle.obj_kinds.specs.declared.value.Value.{Value}
use Rattle.obj_kinds.specs.Limits.{is_legal_node, is_legal_value}
use Rattle.obj_kinds.specs.Order.{node_cmp, covers}
use Rattle.obj_kinds.specs.OrderLaws.{node_total, node_exact}
use Rattle.obj_kinds.proofs.Sorted.{truth}
use Rattle.global_tree.specs.Below.{or_else}
use Rattle.global_tree.proofs.MapLaws.{one_key}
use Rattle.schema_kinds.specs.declared.class.Class.{Class}
use Rattle.schema_kinds.specs.declared.key.Key.{Key}
use Rattle.schema_kinds.specs.declared.record.Record.{Record}
use Rattle.schema_kinds.specs.Classes.{extent_of}
use Rattle.record_layout.specs.Rows.{Globals, data_node, below, row_list, rows}
use Rattle.record_layout.specs.Layout.{layout_of}
use Rattle.record_layout.specs.Reading.{Reading, Read, Damaged, damaged_at, or_damaged, read_fields}
use Rattle.record_layout.specs.Records.{IsAmong, AreApart, IsTrueSource}
use Rattle.record_layout.specs.Schemas.{IsStorable}
use Rattle.record_layout.proofs.ReadLaws.{then_read-is, or_damaged-is}
use Rattle.record_layout.proofs.RecordLaws.{among-of}
use Rattle.record_layout.proofs.SchemaLaws.{storable_is_laid_out}
use Rattle.record_layout.proofs.SourceLaws as source
use Rattle.storage_map.specs.Entries.{has_legal_entries}
use Rattle.storage_map.specs.Markers.{row_class}
use Rattle.storage_map.specs.SoundWorlds.{passes_no_limit}
use Rattle.storage_map.proofs.ChangeLaws.{some_rise, listed_rises}
use Rattle.record_reading.specs.Rows.{source_in, items_behind, read_as, read_by_row, read_record}
use Rattle.record_reading.specs.Damage.{damage, missing_row, over_read}
use Rattle.record_reading.specs.Laws.{IsStoredAt}
use Rattle.record_reading.proofs.KeyLaws as keys
use Rattle.record_reading.proofs.MarkerLaws.{class_is}
use Rattle.record_reading.proofs.RecordLaws.{nodes_are_rows}
use Rattle.world_images.proofs.EntryLaws.{and_first, and_second}
use Rattle.world_audit.specs.Objects.{Told, nodes_under, nodes_of, IsObject}
use Rattle.world_audit.specs.Laws.{is_within, AreNodes, AreStorable}
use Rattle.world_audit.proofs.OwnerLaws.{and_both}

-- ---- nodes at or below a row

pub find_under : (row n : Node) (nodes : Told) → find node_cmp n (nodes_under row nodes) ≡ cond (covers row n) (find node_cmp n nodes) None
find_under row n nodes = find-where_key node_cmp (covers row) n (λ x e. ap (covers row) (sym (node_exact n x e))) nodes

pub under_rise : (row : Node) (nodes : Told) → IsTrue (is_sorted node_cmp nodes) → IsTrue (is_sorted node_cmp (nodes_under row nodes))
under_rise row nodes rising = some_rise (λ e. covers row e.0) nodes rising

-- rising nodes are those of a map that has the same values
pub are_entries : (nodes : Told) (m : Globals) → IsTrue (is_sorted node_cmp nodes) → ((n : Node) → find node_cmp n nodes ≡ get m n) → nodes ≡ listed m
are_entries nodes m rising same =
    same_entries node_cmp node_total node_exact nodes (listed m) (truth (is_sorted node_cmp nodes) rising) (entries_sorted m) (λ n. same n ∙ get-entries m n)

-- a node that is found is within its limits
pub legal_found : (nodes : Told) (n : Node) (v : Value) → list_all is_within nodes ≡ true → find node_cmp n nodes ≡ Some v → is_within (n, v) ≡ true
legal_found [] n v all h = cc
legal_found (e ∷ es) n v all h = by (eq_by_cmp node_cmp n e.0) refl h (legal_found es n v (and_second (is_within e) (list_all is_within es) all))
  where
    by : (b : Bool) → eq_by_cmp node_cmp n e.0 ≡ b → cond b (Some e.1) (find node_cmp n es) ≡ Some v → (find node_cmp n es ≡ Some v → is_within (n, v) ≡ true) → is_within (n, v) ≡ true
    by true t k rest =
        let node = one_key node_exact n e.0 t in
        let value : v ≡ e.1 = cc in
        ap (λ m. is_legal_node m && is_legal_value v) node ∙ ap (λ u. is_legal_node e.0 && is_legal_value u) value ∙ and_first (is_within e) (list_all is_within es) all
    by false t k rest = rest k

pub legal_node_found : (nodes : Told) (n : Node) (v : Value) → AreNodes nodes → find node_cmp n nodes ≡ Some v → is_legal_node n ≡ true
legal_node_found nodes n v are h = and_first (is_legal_node n) (is_legal_value v) (legal_found nodes n v are.within h)

-- ---- what is read

-- the class of a record that is read is one of the extent
pub read_extent : (classes : List Class) (key : Key) (nodes : Told) (r : Record) → read_record classes key nodes ≡ Read r → extent_of classes r.class ≡ Some key.extent
unfolding read_record
read_extent classes key nodes r h =
    let s = source_in nodes (data_node key) in
    let p = then_read-is (or_damaged [] (find node_cmp (data_node key) nodes)) (λ row. read_by_row classes key.extent s row) r h in
    let q = then_read-is (or_damaged [] (row_class classes key.extent p.0)) (λ class. read_as classes s class (items_behind p.0)) r p.2 in
    let f = then_read-is (read_fields classes s (layout_of classes q.0) (items_behind p.0)) (λ fields. Read (record { class = q.0; fields = fields })) r q.2 in
    let same : record { class = q.0; fields = f.0 } ≡ r = cc in
    ap (λ (k : Record). extent_of classes k.class) (sym same) ∙ (class_is classes key.extent q.0 p.0 (or_damaged-is [] (row_class classes key.extent p.0) q.0 q.1)).1

-- where nothing is damaged a record is read
pub undamaged_reads : (classes : List Class) (key : Key) (nodes : Told) → damage classes key nodes ≡ None → (r : Record) × (read_record classes key nodes ≡ Read r)
unfolding damage
undamaged_reads classes key nodes h = by (missing_row key nodes) (read_record classes key nodes) refl h
  where
    by : (o : Option Node) (reading : Reading Record) → read_record classes key nodes ≡ reading
        → or_else o (or_else (option_map (below (data_node key)) (damaged_at reading)) (over_read classes key nodes reading)) ≡ None → (r : Record) × (read_record classes key nodes ≡ Read r)
    by (Some n) reading e k = cc
    by None (Read r) e k = (r, e)
    by None (Damaged way) e k = cc

-- no nodes give no record
pub none_is_damaged : (classes : List Class) (key : Key) → damage classes key [] ≡ Some (data_node key)
unfolding damage
none_is_damaged classes key = refl

-- the record of an object is in shape, and the key's nodes are its rows
pub object_rows : (classes : List Class) (nodes : Told) (key : Key) (r : Record) → AreStorable classes → AreNodes nodes → IsObject classes nodes key r → IsStoredAt classes key r × (nodes_of nodes key ≡ listed (rows classes key r))
object_rows classes nodes key r storable are o =
    nodes_are_rows classes key (nodes_of nodes key) r (under_rise (data_node key) nodes are.rising) (storable r.class key.extent (read_extent classes key (nodes_of nodes key) r o.reads)) o.whole o.reads

-- ---- limits

all_apart : (p : Node × Value → Bool) (es : Told) → AreApart es → ((n : Node) (v : Value) → find node_cmp n es ≡ Some v → p (n, v) ≡ true) → list_all p es ≡ true
all_apart p [] apart each = refl
all_apart p (e ∷ es) apart each =
    and_both (p e) (list_all p es) (each e.0 e.1 (ap (λ r. cond (is_eq r) (Some e.1) (find node_cmp e.0 es)) (tied_itself node_total e.0)))
    (all_apart p es apart.1 (λ n v h. each n v (later n v h (eq_by_cmp node_cmp n e.0) refl)))
  where
    later : (n : Node) (v : Value) → find node_cmp n es ≡ Some v → (b : Bool) → eq_by_cmp node_cmp n e.0 ≡ b → cond b (Some e.1) (find node_cmp n es) ≡ Some v
    later n v h true t = absurd (apart.0 (subst (λ m. IsAmong m es) (one_key node_exact n e.0 t) (among-of es n v h)))
    later n v h false t = h

back_listed : (m : Globals) → from_entries {R = node_cmp} (listed m) ≡ m
back_listed m = same_map node_total node_exact (from_entries (listed m)) m (λ q. get-from_entries node_total (listed m) q ∙ sym (get-entries m q))

rows_found : (classes : List Class) (key : Key) (r : Record) (n : Node) → find node_cmp n (row_list classes key r) ≡ find node_cmp n (listed (rows classes key r))
unfolding rows
rows_found classes key r n = sym (get-from_entries node_total (row_list classes key r) n) ∙ get-entries (rows classes key r) n

pub rows_are_apart : (classes : List Class) (key : Key) (r : Record) → IsStorable classes r.class → IsStoredAt classes key r → AreApart (row_list classes key r)
rows_are_apart classes key r storable stored =
    let nodes : Told = listed (rows classes key r) in
    let s = source_in nodes (data_node key) in
    let laid = storable_is_laid_out classes r.class storable in
    let true_one : IsTrueSource (rows classes key r) (data_node key) s = subst (λ g. IsTrueSource g (data_node key) s) (back_listed (rows classes key r)) (keys.true_source nodes (data_node key) (listed_rises (rows classes key r))) in
    (source.true_source classes key s r laid.0 laid.1 stored.fields true_one).apart

-- an object of nodes within their limits passes none
pub object_passes : (classes : List Class) (nodes : Told) (key : Key) (r : Record) → AreStorable classes → AreNodes nodes → IsObject classes nodes key r → passes_no_limit classes key r ≡ true
unfolding passes_no_limit
object_passes classes nodes key r storable are o =
    let p = object_rows classes nodes key r storable are o in
    and_both (list_all is_within (row_list classes key r)) (has_legal_entries classes key r)
    (all_apart is_within (row_list classes key r) (rows_are_apart classes key r (storable r.class key.extent p.0.extent) p.0)
    (λ n v h. legal_found nodes n v are.within (there n v (sym (find_under (data_node key) n nodes) ∙ ap (find node_cmp n) p.1 ∙ sym (rows_found classes key r n) ∙ h))))
    p.0.entries
  where
    at : (b : Bool) (o : Option Value) (v : Value) → cond b o None ≡ Some v → o ≡ Some v
    at true o v h = h
    at false o v h = cc

    there : (n : Node) (v : Value) → cond (covers (data_node key) n) (find node_cmp n nodes) None ≡ Some v → find node_cmp n nodes ≡ Some v
    there n v h = at (covers (data_node key) n) (find node_cmp n nodes) v h
