-- Where a record was read and no further node is there, the nodes are the record's rows.
use Rattle.std.proofs.Common.{◌≡◌, ℕ, Bool, true, false, cond, List, [], ◌∷◌, ◌++◌, map, take, drop, length, Option, None, Some, refl, sym, ap, subst, ◌∙◌, append-nil, ◌⊎◌, inl, inr}
use Rattle.std.specs.Ordering.{eq_by_cmp}
use Rattle.std.specs.FinMap.{find, get, from_entries, same_map, get-from_entries}
use Rattle.obj_kinds.specs.declared.sub.Sub.{Sub}
use Rattle.obj_kinds.specs.declared.node.Node.{Node}
use Rattle.obj_kinds.specs.declared.value.Value.{Value}
use Rattle.obj_kinds.specs.declared.value.Value.TheVariants as value
use Rattle.obj_kinds.specs.Order.{node_cmp}
use Rattle.obj_kinds.proofs.OrderLemmas.{node_total, node_exact}
use Rattle.global_tree.proofs.MapLaws.{one_key}
use Rattle.std.proofs.lemmas.Cmp.{eq_by_cmp_equiv}
use Rattle.schema_kinds.specs.declared.class.Class.{Class}
use Rattle.schema_kinds.specs.declared.key.Key.{Key}
use Rattle.schema_kinds.specs.declared.kind.Item.{Item}
use Rattle.schema_kinds.specs.declared.record.Field.{Field}
use Rattle.schema_kinds.specs.declared.record.Record.{Record}
use Rattle.record_layout.specs.Shapes.{AreOfForms}
use Rattle.record_layout.specs.Items.{item}
use Rattle.record_layout.specs.Layout.{layout_of, IsLaidOut}
use Rattle.record_layout.specs.Rows.{Globals, data_node, below, marker, rows_in, maps_in, lower_nodes, element_nodes, array_nodes, nodes_below, row_list, rows}
use Rattle.record_layout.specs.Reading.{Source, AllStand, ArraysStand, FieldsStand}
use Rattle.record_layout.specs.Records.{IsAmong, AreApart, HaveKeys, IsSourceOf, IsReadWhole}
use Rattle.record_layout.proofs.ReadLaws.{read_where_they_stand}

abbrev AllThere : Globals → List (Node × Value) → Type 0
AllThere g [] = Unit {0}
AllThere g (e ∷ es) = (get g e.0 ≡ Some e.1) × AllThere g es

find-there : (g : Globals) (es : List (Node × Value)) (q : Node) (v : Value) → AllThere g es → find node_cmp q es ≡ Some v → get g q ≡ Some v
find-there g [] q v there h = cc
find-there g (e ∷ es) q v there h = by (eq_by_cmp node_cmp q e.0) refl h (find-there g es q v there.1)
  where
    by : (b : Bool) → eq_by_cmp node_cmp q e.0 ≡ b → cond b (Some e.1) (find node_cmp q es) ≡ Some v → (find node_cmp q es ≡ Some v → get g q ≡ Some v) → get g q ≡ Some v
    by true same k more = ap (get g) (one_key node_exact q e.0 same) ∙ there.0 ∙ k
    by false apart k more = more k

pub find-among : (es : List (Node × Value)) (q : Node) → IsAmong q es → find node_cmp q es ≡ None → ⊥
find-among [] q among h = among
find-among (e ∷ es) q among h = by (eq_by_cmp node_cmp q e.0) refl h among (find-among es q)
  where
    ties : q ≡ e.0 → eq_by_cmp node_cmp q e.0 ≡ true
    ties same = subst (λ (n : Node). eq_by_cmp node_cmp q n ≡ true) same ((eq_by_cmp_equiv node_total).refl q)

    by : (b : Bool) → eq_by_cmp node_cmp q e.0 ≡ b → cond b (Some e.1) (find node_cmp q es) ≡ None → (q ≡ e.0) ⊎ IsAmong q es → (IsAmong q es → find node_cmp q es ≡ None → ⊥) → ⊥
    by true same k a more = cc
    by false apart k (inl is) more = let t : eq_by_cmp node_cmp q e.0 ≡ true = ties is in cc
    by false apart k (inr a) more = more a k

same-as-list : (g : Globals) (es : List (Node × Value)) → AllThere g es → ((n : Node) (v : Value) → get g n ≡ Some v → IsAmong n es) → g ≡ from_entries es
same-as-list g es there only = same_map node_total node_exact _ _ (λ q. at q (find node_cmp q es) refl (get g q) refl ∙ sym (get-from_entries node_total es q))
  where
    at : (q : Node) (f : Option Value) → find node_cmp q es ≡ f → (o : Option Value) → get g q ≡ o → get g q ≡ find node_cmp q es
    at q (Some v) e o d = find-there g es q v there e ∙ sym e
    at q None e None d = d ∙ sym e
    at q None e (Some v) d = absurd (find-among es q (only q v d) e)

stand-append : (s : Source) (xs ys : List (List Sub × Value)) → AllStand s xs → AllStand s ys → AllStand s (xs ++ ys)
stand-append s [] ys first rest = rest
stand-append s (x ∷ xs) ys first rest = (first.0, stand-append s xs ys first.1 rest)

arrays-stand : (s : Source) (as' : List (List ℕ × Item)) (maps : List (List (Sub × Field))) → ArraysStand s as' maps → AllStand s (array_nodes as' maps)
arrays-stand s [] [] stand = tt
arrays-stand s [] (m ∷ maps) stand = absurd stand
arrays-stand s (a ∷ as') [] stand = absurd stand
arrays-stand s (a ∷ as') (m ∷ maps) stand = stand-append s (element_nodes a.0 m) (array_nodes as' maps) stand.1 (arrays-stand s as' maps stand.2)

there-map : (g : Globals) (s : Source) (n : Node) → ((way : List Sub) → s.value way ≡ get g (below n way)) → (es : List (List Sub × Value)) → AllStand s es → AllThere g (map (λ e. (below n e.0, e.1)) es)
there-map g s n values [] stand = tt
there-map g s n values (e ∷ es) stand = (sym (values e.0) ∙ stand.0, there-map g s n values es stand.1)

below-nothing : (n : Node) → below n [] ≡ n
below-nothing n = λ i. record { global = n.global; subs = append-nil n.subs i }

pub among-of : (es : List (Node × Value)) (q : Node) (v : Value) → find node_cmp q es ≡ Some v → IsAmong q es
among-of [] q v h = cc
among-of (e ∷ es) q v h = by (eq_by_cmp node_cmp q e.0) refl h (among-of es q v)
  where
    by : (b : Bool) → eq_by_cmp node_cmp q e.0 ≡ b → cond b (Some e.1) (find node_cmp q es) ≡ Some v → (find node_cmp q es ≡ Some v → IsAmong q es) → (q ≡ e.0) ⊎ IsAmong q es
    by true same k more = inl (one_key node_exact q e.0 same)
    by false apart k more = inr (more k)

pub read_whole : (classes : List Class) (key : Key) (g : Globals) (s : Source) (r : Record) → IsLaidOut (layout_of classes r.class) → IsReadWhole classes key g s r → g ≡ rows classes key r
unfolding rows row_list
read_whole classes key g s r laid whole =
    let stand = ((read_where_they_stand classes s (layout_of classes r.class) whole.items r.fields laid whole.rising).0 whole.read).1 in
    let layout = layout_of classes r.class in
    let own = rows_in r.fields in
    let first : s.value [] ≡ Some (value.List (value.Str (marker key.extent r.class) ∷ map item (take (length layout.root) own))) =
    whole.values [] ∙ ap (get g) (below-nothing (data_node key)) ∙ whole.row ∙ ap (λ vs. Some (value.List (value.Str (marker key.extent r.class) ∷ vs))) stand.row in
    let all : AllStand s (nodes_below layout (marker key.extent r.class) r.fields) =
    (first, stand-append s (lower_nodes layout.lower (drop (length layout.root) own)) (array_nodes layout.arrays (maps_in r.fields)) stand.lower (arrays-stand s layout.arrays (maps_in r.fields) stand.arrays)) in
    same-as-list g (row_list classes key r) (there-map g s (data_node key) whole.values (nodes_below layout (marker key.extent r.class) r.fields) all) whole.only

-- THE OTHER WAY: THE ROWS OF A RECORD GIVE IT

find-other : (e : Node × Value) (es : List (Node × Value)) (q : Node) (v : Value) → (q ≡ e.0 → ⊥) → find node_cmp q es ≡ Some v → find node_cmp q (e ∷ es) ≡ Some v
find-other e es q v other h = by (eq_by_cmp node_cmp q e.0) refl
  where
    by : (b : Bool) → eq_by_cmp node_cmp q e.0 ≡ b → cond b (Some e.1) (find node_cmp q es) ≡ Some v
    by true same = absurd (other (one_key node_exact q e.0 same))
    by false same = h

-- each of some entries is what is found of its node in all of them
abbrev AllFound : List (Node × Value) → List (Node × Value) → Type 0
AllFound all [] = Unit {0}
AllFound all (e ∷ es) = (find node_cmp e.0 all ≡ Some e.1) × AllFound all es

found-behind : (d : Node × Value) (all es : List (Node × Value)) → (IsAmong d.0 es → ⊥) → AllFound all es → AllFound (d ∷ all) es
found-behind d all [] apart found = tt
found-behind d all (e ∷ es) apart found =
    (find-other d all e.0 e.1 (λ same. apart (inl (sym same))) found.0, found-behind d all es (λ a. apart (inr a)) found.1)

all-found : (es : List (Node × Value)) → AreApart es → AllFound es es
all-found [] apart = tt
all-found (e ∷ es) apart = (rw ((eq_by_cmp_equiv node_total).refl e.0) refl, found-behind e es es apart.0 (all-found es apart.1))

found-there : (all es : List (Node × Value)) → AllFound all es → AllThere (from_entries all) es
found-there all [] found = tt
found-there all (e ∷ es) found = (get-from_entries node_total all e.0 ∙ found.0, found-there all es found.1)

map-there : (g : Globals) (s : Source) (n : Node) → ((way : List Sub) → s.value way ≡ get g (below n way)) → (es : List (List Sub × Value)) → AllThere g (map (λ e. (below n e.0, e.1)) es) → AllStand s es
map-there g s n values [] there = tt
map-there g s n values (e ∷ es) there = (values e.0 ∙ there.0, map-there g s n values es there.1)

append-stand : (s : Source) (xs ys : List (List Sub × Value)) → AllStand s (xs ++ ys) → AllStand s xs × AllStand s ys
append-stand s [] ys stand = (tt, stand)
append-stand s (x ∷ xs) ys stand = let p = append-stand s xs ys stand.1 in ((stand.0, p.0), p.1)

stand-arrays : (s : Source) (as' : List (List ℕ × Item)) (maps : List (List (Sub × Field))) → HaveKeys s as' maps → AllStand s (array_nodes as' maps) → ArraysStand s as' maps
stand-arrays s [] [] keys stand = tt
stand-arrays s [] (m ∷ maps) keys stand = absurd keys
stand-arrays s (a ∷ as') [] keys stand = absurd keys
stand-arrays s (a ∷ as') (m ∷ maps) keys stand =
    let p = append-stand s (element_nodes a.0 m) (array_nodes as' maps) stand in
    (keys.0, p.0, stand-arrays s as' maps keys.1 p.1)

-- what stands in the rows of a record is read as the record
pub rows_are_read : (classes : List Class) (key : Key) (s : Source) (r : Record) → IsLaidOut (layout_of classes r.class) → AreOfForms classes (layout_of classes r.class).forms r.fields → IsSourceOf classes key s r
    → IsReadWhole classes key (rows classes key r) s r
unfolding rows row_list
rows_are_read classes key s r laid good source =
    let layout = layout_of classes r.class in
    let own = rows_in r.fields in
    let mark = marker key.extent r.class in
    let all : List (Node × Value) = row_list classes key r in
    let there : AllThere (from_entries all) all = found-there all all (all-found all source.apart) in
    let stand : AllStand s (nodes_below layout mark r.fields) = map-there (rows classes key r) s (data_node key) source.values (nodes_below layout mark r.fields) there in
    let halves = append-stand s (lower_nodes layout.lower (drop (length layout.root) own)) (array_nodes layout.arrays (maps_in r.fields)) stand.1 in
    let items : List Value = map item (take (length layout.root) own) in
    let fields_stand : FieldsStand s layout items r.fields = record { row = refl; lower = halves.0; arrays = stand-arrays s layout.arrays (maps_in r.fields) source.keys halves.1 } in
    record {
      values = source.values;
      rising = source.rising;
      items = items;
      row = ap (get (rows classes key r)) (sym (below-nothing (data_node key))) ∙ sym (source.values []) ∙ stand.0;
      read = (read_where_they_stand classes s layout items r.fields laid source.rising).1 (good, fields_stand);
      only = λ n v h. among-of all n v (sym (get-from_entries node_total all n) ∙ h);
    }
