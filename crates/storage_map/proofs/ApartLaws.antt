-- Of two records of one class no node of the new one stands below a node that only the old one has.
use Rattle.std.proofs.Common.{◌≡◌, ℕ, zero, suc, ◌+◌, ◌≤◌, Bool, true, false, not, cond, ◌&&◌, ◌||◌, nat_eq, nat_le, List, [], ◌∷◌, ◌++◌, map, filter, take, drop, length, Option, None, Some, is_some, refl, sym, ap, subst, ◌∙◌, arith, ◌⊎◌, inl, inr}
use Rattle.std.specs.List.{list_any, list_all}
use Rattle.std.specs.Ordering.{eq_by_cmp, is_eq}
use Rattle.std.specs.FinMap.{find, get, entries as listed, contains_key, get-entries, get-from_entries}
use Rattle.std.specs.FinMap.Entries.{is_some-find}
use Rattle.std.proofs.lemmas.Bool.{leb-true, le-leb, eqb-true, eq-eqb}
use Rattle.std.proofs.lemmas.List.{length-append}
use Rattle.std.proofs.lemmas.List.Folds.{list_all-append}
use Rattle.std.proofs.lemmas.Cmp.{tied_itself}
use Rattle.obj_kinds.specs.declared.node.Node.{Node}
use Rattle.obj_kinds.specs.declared.sub.Sub.{Sub}
use Rattle.obj_kinds.specs.declared.sub.Sub.TheVariants.{Str}
use Rattle.obj_kinds.specs.declared.value.Value.{Value}
use Rattle.obj_kinds.specs.declared.value.Value.TheVariants as value
use Rattle.obj_kinds.specs.declared.name.ClassName.{ClassName}
use Rattle.obj_kinds.specs.Order.{text_cmp, sub_cmp, node_cmp, covers, is_front}
use Rattle.obj_kinds.specs.OrderLaws.{node_total, node_exact, sub_exact}
use Rattle.obj_kinds.proofs.TextLaws.{text_tie-is}
use Rattle.global_tree.proofs.MapLaws.{one_key}
use Rattle.schema_kinds.specs.declared.class.Class.{Class}
use Rattle.schema_kinds.specs.declared.key.Key.{Key}
use Rattle.schema_kinds.specs.declared.kind.Item.{Item}
use Rattle.schema_kinds.specs.declared.record.Field.{Field}
use Rattle.schema_kinds.specs.declared.record.Record.{Record}
use Rattle.record_layout.specs.Shapes.{Form}
use Rattle.record_layout.specs.Items.{item}
use Rattle.record_layout.specs.Layout.{Layout, layout_of}
use Rattle.record_layout.specs.Rows.{Globals, data_node, below, marker, maps_in, rows_in, lower_nodes, element_nodes, array_nodes, nodes_below, row_list, rows}
use Rattle.storage_map.specs.Changes.{stale, NoneBelow}
use Rattle.storage_map.specs.Ways.{placed_below}
use Rattle.storage_map.proofs.ChangeLaws.{NodePairs}

abbrev has : Node → NodePairs → Bool
has n es = is_some (find node_cmp n es)

and_first : (a b : Bool) → (a && b) ≡ true → a ≡ true
and_first true b h = refl
and_first false b h = cc

and_second : (a b : Bool) → (a && b) ≡ true → b ≡ true
and_second true b h = h
and_second false b h = cc

and_both : (a b : Bool) → a ≡ true → b ≡ true → (a && b) ≡ true
and_both a b h k = rw (h, k) refl

or_left : (a b : Bool) → a ≡ true → (a || b) ≡ true
or_left a b h = rw h refl

or_right : (a b : Bool) → b ≡ true → (a || b) ≡ true
or_right true b h = refl
or_right false b h = h

-- what is so of all pairs is so of a node that is found
all_at : (p : Node → Bool) (es : NodePairs) → list_all (λ e. p e.0) es ≡ true → (n : Node) → has n es ≡ true → p n ≡ true
all_at p [] all n h = cc
all_at p (e ∷ es) all n h = by (eq_by_cmp node_cmp n e.0) refl h (all_at p es (and_second (p e.0) (list_all (λ d. p d.0) es) all) n)
  where
    by : (b : Bool) → eq_by_cmp node_cmp n e.0 ≡ b → is_some (cond b (Some e.1) (find node_cmp n es)) ≡ true → (has n es ≡ true → p n ≡ true) → p n ≡ true
    by true t h' rest = ap p (one_key node_exact n e.0 t) ∙ and_first (p e.0) (list_all (λ d. p d.0) es) all
    by false t h' rest = rest h'

-- of nodes that pass a test none covers n
pub none_kept : (n : Node) (test : Node → Bool) (whole es : NodePairs) → ((m : Node) → has m whole ≡ true → test m ≡ true → covers m n ≡ false) → ((m : Node) → has m es ≡ true → has m whole ≡ true)
    → list_any (λ k. covers k n) (map (λ e. e.0) (filter (λ e. test e.0) es)) ≡ false
none_kept n test whole [] safe found = refl
none_kept n test whole (e ∷ es) safe found =
    by (test e.0) refl (none_kept n test whole es safe (λ m h. found m (later m (eq_by_cmp node_cmp m e.0) h)))
  where
    later : (m : Node) (b : Bool) → has m es ≡ true → is_some (cond b (Some e.1) (find node_cmp m es)) ≡ true
    later m true h = refl
    later m false h = h

    here : has e.0 (e ∷ es) ≡ true
    here = ap (λ o. is_some (cond (is_eq o) (Some e.1) (find node_cmp e.0 es))) (tied_itself node_total e.0)

    by : (b : Bool) → test e.0 ≡ b → list_any (λ k. covers k n) (map (λ d. d.0) (filter (λ d. test d.0) es)) ≡ false → list_any (λ k. covers k n) (map (λ d. d.0) (cond b (e ∷ filter (λ d. test d.0) es) (filter (λ d. test d.0) es))) ≡ false
    by true t rest = rw (safe e.0 (found e.0 here) t) rest
    by false t rest = rest

same_front : (xs ys : List Sub) → is_front xs ys ≡ true → length ys ≤ length xs → xs ≡ ys
same_front [] [] h le = refl
same_front [] (y ∷ ys) h le = absurd (omega (arith, le))
same_front (x ∷ xs) [] h le = cc
same_front (x ∷ xs) (y ∷ ys) h le =
    let head : x ≡ y = one_key sub_exact x y (and_first (eq_by_cmp sub_cmp x y) (is_front xs ys) h) in
    let tail : xs ≡ ys = same_front xs ys (and_second (eq_by_cmp sub_cmp x y) (is_front xs ys) h) (omega (arith, le)) in
    λ i. head i ∷ tail i

eq_tie : (a b : List ℕ) → eq_by_cmp text_cmp a b ≡ true → a ≡ b
eq_tie a b h = one_key (λ x y e. text_tie-is x y e) a b h

pub same_covered : (k n : Node) → covers k n ≡ true → length n.subs ≤ length k.subs → k ≡ n
unfolding covers
same_covered k n h le =
    let g = eq_tie k.global n.global (and_first (eq_by_cmp text_cmp k.global n.global) (is_front k.subs n.subs) h) in
    let s = same_front k.subs n.subs (and_second (eq_by_cmp text_cmp k.global n.global) (is_front k.subs n.subs) h) le in
    λ i. record { global = g i; subs = s i }

-- nodes of the old pairs are among the new ones or have d subscripts, and no new one has more
module _ (d : ℕ) (old new : NodePairs) (deep : list_all (λ e. has e.0 new || nat_eq (length e.0.subs) d) old ≡ true) (flat : list_all (λ e. nat_le (length e.0.subs) d) new ≡ true) where
  is_free : (n k : Node) → has n new ≡ true → has k old ≡ true → has k new ≡ false → covers k n ≡ false
  is_free n k there was gone = by (covers k n) refl
    where
      at_d : length k.subs ≡ d
      at_d = eqb-true (length k.subs) d (ap (λ b. b || nat_eq (length k.subs) d) (sym gone) ∙ all_at (λ m. has m new || nat_eq (length m.subs) d) old deep k was)

      few : length n.subs ≤ d
      few = leb-true (length n.subs) d (all_at (λ m. nat_le (length m.subs) d) new flat n there)

      by : (b : Bool) → covers k n ≡ b → covers k n ≡ false
      by false e = e
      by true e =
          let same : k ≡ n = same_covered k n e (omega (arith, at_d, few)) in
          let there' : has k new ≡ true = ap (λ m. has m new) same ∙ there in
          cc

-- ways below a row: those of its lists don't turn on the fields
abbrev ways : List (List Sub × Value) → List (List Sub)
ways ws = map (λ e. e.0) ws

lower_ways : (ls : List (List ℕ × List Form)) (fs gs : List Field) → ways (lower_nodes ls fs) ≡ ways (lower_nodes ls gs)
lower_ways [] fs gs = refl
lower_ways (l ∷ ls) fs gs = ap (λ ws. (Str l.0 ∷ []) ∷ ws) (lower_ways ls _ _)

lower_short : (ls : List (List ℕ × List Form)) (fs : List Field) → list_all (λ w. nat_le (length w.0) 2) (lower_nodes ls fs) ≡ true
lower_short [] fs = refl
lower_short (l ∷ ls) fs = lower_short ls _

elements_two : (name : List ℕ) (pairs : List (Sub × Field)) → list_all (λ w. nat_eq (length w.0) 2) (element_nodes name pairs) ≡ true
elements_two name [] = refl
elements_two name (p ∷ pairs) = elements_two name pairs

arrays_two : (as' : List (List ℕ × Item)) (maps : List (List (Sub × Field))) → list_all (λ w. nat_eq (length w.0) 2) (array_nodes as' maps) ≡ true
arrays_two [] maps = refl
arrays_two (a ∷ as') [] = refl
arrays_two (a ∷ as') (pairs ∷ maps) = list_all-append (λ (w : List Sub × Value). nat_eq (length w.0) 2) (element_nodes a.0 pairs) (array_nodes as' maps) ∙ and_both _ _ (elements_two a.0 pairs) (arrays_two as' maps)

two_short : (ws : List (List Sub × Value)) → list_all (λ w. nat_eq (length w.0) 2) ws ≡ true → list_all (λ w. nat_le (length w.0) 2) ws ≡ true
two_short [] h = refl
two_short (w ∷ ws) h =
    let two : length w.0 ≡ 2 = eqb-true (length w.0) 2 (and_first (nat_eq (length w.0) 2) (list_all (λ v. nat_eq (length v.0) 2) ws) h) in
    and_both (nat_le (length w.0) 2) (list_all (λ v. nat_le (length v.0) 2) ws) (le-leb (length w.0) 2 (omega (arith, two))) (two_short ws (and_second (nat_eq (length w.0) 2) (list_all (λ v. nat_eq (length v.0) 2) ws) h))

abbrev Among : List Sub → List (List Sub) → Type 0
Among w [] = ⊥
Among w (x ∷ xs) = (w ≡ x) ⊎ Among w xs

module _ (row : Node) (new : NodePairs) where
  abbrev depth : ℕ
  depth = length row.subs + 2

  flat_ways : (ws : List (List Sub × Value)) → list_all (λ w. nat_le (length w.0) 2) ws ≡ true → list_all (λ e. nat_le (length e.0.subs) depth) (placed_below row ws) ≡ true
  flat_ways [] h = refl
  flat_ways (w ∷ ws) h =
      let few : length w.0 ≤ 2 = leb-true (length w.0) 2 (and_first (nat_le (length w.0) 2) (list_all (λ v. nat_le (length v.0) 2) ws) h) in
      let sum : length (row.subs ++ w.0) ≡ length row.subs + length w.0 = length-append row.subs w.0 in
      and_both _ _ (le-leb (length (row.subs ++ w.0)) depth (omega (arith, few, sum))) (flat_ways ws (and_second (nat_le (length w.0) 2) (list_all (λ v. nat_le (length v.0) 2) ws) h))

  deep_two : (ws : List (List Sub × Value)) → list_all (λ w. nat_eq (length w.0) 2) ws ≡ true → list_all (λ e. has e.0 new || nat_eq (length e.0.subs) depth) (placed_below row ws) ≡ true
  deep_two [] h = refl
  deep_two (w ∷ ws) h =
      let two : length w.0 ≡ 2 = eqb-true (length w.0) 2 (and_first (nat_eq (length w.0) 2) (list_all (λ v. nat_eq (length v.0) 2) ws) h) in
      let sum : length (row.subs ++ w.0) ≡ length row.subs + length w.0 = length-append row.subs w.0 in
      and_both _ _ (or_right (has (below row w.0) new) (nat_eq (length (row.subs ++ w.0)) depth) (eq-eqb (length (row.subs ++ w.0)) depth (omega (arith, two, sum))))
      (deep_two ws (and_second (nat_eq (length w.0) 2) (list_all (λ v. nat_eq (length v.0) 2) ws) h))

  deep_known : (ws : List (List Sub × Value)) → ((w : List Sub) → Among w (ways ws) → has (below row w) new ≡ true) → list_all (λ e. has e.0 new || nat_eq (length e.0.subs) depth) (placed_below row ws) ≡ true
  deep_known [] known = refl
  deep_known (w ∷ ws) known =
      and_both _ _ (or_left (has (below row w.0) new) (nat_eq (length (row.subs ++ w.0)) depth) (known w.0 (inl refl))) (deep_known ws (λ v a. known v (inr a)))

  deep_both : (vs ws : List (List Sub × Value)) → list_all (λ e. has e.0 new || nat_eq (length e.0.subs) depth) (placed_below row vs) ≡ true
      → list_all (λ e. has e.0 new || nat_eq (length e.0.subs) depth) (placed_below row ws) ≡ true → list_all (λ e. has e.0 new || nat_eq (length e.0.subs) depth) (placed_below row (vs ++ ws)) ≡ true
  deep_both [] ws h k = k
  deep_both (v ∷ vs) ws h k =
      let p : Node → Bool = λ m. has m new || nat_eq (length m.subs) depth in
      and_both _ _ (and_first (p (below row v.0)) (list_all (λ e. p e.0) (placed_below row vs)) h) (deep_both vs ws (and_second (p (below row v.0)) (list_all (λ e. p e.0) (placed_below row vs)) h) k)

found_way : (row : Node) (vs more : List (List Sub × Value)) (w : List Sub) → Among w (ways vs) → has (below row w) (placed_below row (vs ++ more)) ≡ true
found_way row [] more w a = absurd a
found_way row (v ∷ vs) more w (inl same) =
    ap (λ (u : List Sub). is_some (cond (eq_by_cmp node_cmp (below row u) (below row v.0)) (Some v.1) (find node_cmp (below row u) (placed_below row (vs ++ more))))) same
    ∙ ap (λ o. is_some (cond (is_eq o) (Some v.1) (find node_cmp (below row v.0) (placed_below row (vs ++ more))))) (tied_itself node_total (below row v.0))
found_way row (v ∷ vs) more w (inr a) = by (eq_by_cmp node_cmp (below row w) (below row v.0)) (found_way row vs more w a)
  where
    by : (b : Bool) → has (below row w) (placed_below row (vs ++ more)) ≡ true → is_some (cond b (Some v.1) (find node_cmp (below row w) (placed_below row (vs ++ more)))) ≡ true
    by true h = refl
    by false h = h

-- the rows of two records of one layout
apart_rows : (row : Node) (layout : Layout) (marked mark : List ℕ) (fs gs : List Field) (n k : Node)
    → has n (placed_below row (nodes_below layout mark gs)) ≡ true → has k (placed_below row (nodes_below layout marked fs)) ≡ true → has k (placed_below row (nodes_below layout mark gs)) ≡ false → covers k n ≡ false
apart_rows row layout marked mark fs gs n k =
    let first_old = value.List (value.Str marked ∷ map item (take (length layout.root) (rows_in fs))) in
    let first_new = value.List (value.Str mark ∷ map item (take (length layout.root) (rows_in gs))) in
    let lower_old = lower_nodes layout.lower (drop (length layout.root) (rows_in fs)) in
    let lower_new = lower_nodes layout.lower (drop (length layout.root) (rows_in gs)) in
    let arrays_old = array_nodes layout.arrays (maps_in fs) in
    let arrays_new = array_nodes layout.arrays (maps_in gs) in
    let new : NodePairs = placed_below row (nodes_below layout mark gs) in
    let same : ways (([], first_old) ∷ lower_old) ≡ ways (([], first_new) ∷ lower_new) = ap (λ ws. [] ∷ ws) (lower_ways layout.lower _ _) in
    let known = deep_known row new (([], first_old) ∷ lower_old) (λ w a. found_way row (([], first_new) ∷ lower_new) arrays_new w (subst (Among w) same a)) in
    let deep = deep_both row new (([], first_old) ∷ lower_old) arrays_old known (deep_two row new arrays_old (arrays_two layout.arrays (maps_in fs))) in
    let short = list_all-append (λ (w : List Sub × Value). nat_le (length w.0) 2) lower_new arrays_new ∙ and_both _ _ (lower_short layout.lower _) (two_short arrays_new (arrays_two layout.arrays (maps_in gs))) in
    is_free (length row.subs + 2) (placed_below row (nodes_below layout marked fs)) new deep (flat_ways row new (nodes_below layout mark gs) short) n k

rows_found : (classes : List Class) (key : Key) (r : Record) (n : Node) → has n (listed (rows classes key r)) ≡ has n (row_list classes key r)
unfolding rows
rows_found classes key r n = ap is_some (sym (get-entries (rows classes key r) n) ∙ get-from_entries node_total (row_list classes key r) n)

rows_apart : (classes : List Class) (key : Key) (old new : Record) (n k : Node) → old.class ≡ new.class → has n (row_list classes key new) ≡ true → has k (row_list classes key old) ≡ true → has k (row_list classes key new) ≡ false → covers k n ≡ false
unfolding row_list
rows_apart classes key old new n k same =
    let row = data_node key in
    let mark = marker key.extent new.class in
    subst (λ (c : ClassName). has n (placed_below row (nodes_below (layout_of classes new.class) mark new.fields)) ≡ true → has k (placed_below row (nodes_below (layout_of classes c) (marker key.extent old.class) old.fields)) ≡ true
    → has k (placed_below row (nodes_below (layout_of classes new.class) mark new.fields)) ≡ false → covers k n ≡ false) (sym same)
    (apart_rows row (layout_of classes new.class) (marker key.extent old.class) mark old.fields new.fields n k)

pub none_below_rows : (classes : List Class) (key : Key) (old new : Record) → old.class ≡ new.class → NoneBelow (rows classes key old) (rows classes key new)
unfolding stale
none_below_rows classes key old new same n there =
    let test : Node → Bool = λ m. not (has m (listed (rows classes key new))) in
    let here : has n (row_list classes key new) ≡ true = sym (rows_found classes key new n) ∙ ap is_some (sym (get-entries (rows classes key new) n)) ∙ there in
    none_kept n test (listed (rows classes key old)) (listed (rows classes key old))
    (λ m was gone. rows_apart classes key old new n m same here (sym (rows_found classes key old m) ∙ was) (sym (rows_found classes key new m) ∙ turned (has m (listed (rows classes key new))) gone))
    (λ m h. h)
  where
    turned : (b : Bool) → not b ≡ true → b ≡ false
    turned true h = cc
    turned false h = refl
