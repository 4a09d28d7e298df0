-- The rows of a record stand at different nodes, and a source of theirs has the keys of the arrays.
use Rattle.std.proofs.Common.{◌≡◌, ℕ, Bool, true, false, cond, List, [], ◌∷◌, ◌++◌, map, take, drop, length, Option, None, Some, is_some, refl, sym, ap, subst, ◌∙◌, ◌⊎◌, inl, inr}
use Rattle.std.specs.FinMap.{find, get, contains_key, from_entries, get-from_entries}
use Rattle.std.proofs.lemmas.List.{append_cancel_left}
use Rattle.obj_kinds.specs.declared.node.Node.{Node}
use Rattle.obj_kinds.specs.declared.sub.Sub.{Sub}
use Rattle.obj_kinds.specs.declared.sub.Sub.TheVariants.{Num, Str}
use Rattle.obj_kinds.specs.declared.value.Value.{Value}
use Rattle.obj_kinds.specs.declared.value.Value.TheVariants as value
use Rattle.obj_kinds.specs.Order.{node_cmp}
use Rattle.obj_kinds.proofs.OrderLemmas.{node_total, node_exact}
use Rattle.schema_kinds.specs.declared.class.Class.{Class}
use Rattle.schema_kinds.specs.declared.key.Key.{Key}
use Rattle.schema_kinds.specs.declared.kind.Item.{Item}
use Rattle.schema_kinds.specs.declared.record.Field.{Field}
use Rattle.schema_kinds.specs.declared.record.Record.{Record}
use Rattle.record_layout.specs.Inverse.{AreGood, EachGood}
use Rattle.record_layout.specs.Shapes.{Form, single, Rise, RiseFrom, IsRowField, AreOfForms}
use Rattle.record_layout.specs.Items.{item}
use Rattle.record_layout.specs.Layout.{Layout, layout_of, IsLaidOut, keyed_item}
use Rattle.std.specs.List.{filter_map}
use Rattle.record_layout.specs.Rows.{Globals, data_node, below, marker, rows_in, maps_in, lower_nodes, element_nodes, array_nodes, nodes_below, row_list, rows}
use Rattle.record_layout.specs.Reading.{Source}
use Rattle.record_layout.specs.Records.{IsAmong, AreApart, HaveKeys, IsSourceOf, IsIn, StandsAt, IsTrueSource, IsNotNamed, HaveNames, HaveDifferentNames}
use Rattle.record_layout.proofs.KeyLaws.{IsWay, one_list, way-append, append-first, append-second, no_lower, array-way, way-array, element-way, not_less, rise-all}
use Rattle.record_layout.proofs.RecordLaws.{among-of, find-among}
use Rattle.record_layout.proofs.ReadLaws.{IsParted, parts}

abbrev IsNamed : List ℕ → List (List ℕ × Item) → Type 0
IsNamed name [] = ⊥
IsNamed name (a ∷ as') = (name ≡ a.0) ⊎ IsNamed name as'

named-apart : (name other : List ℕ) (as' : List (List ℕ × Item)) → IsNotNamed other as' → IsNamed name as' → other ≡ name → ⊥
named-apart name other [] apart named same = named
named-apart name other (a ∷ as') apart (inl is) same = apart.0 (same ∙ is)
named-apart name other (a ∷ as') apart (inr is) same = named-apart name other as' apart.1 is same

abbrev RiseAll : List Item → List (List (Sub × Field)) → Type 0
RiseAll is maps = AreGood (λ i m. Rise (map (λ e. e.0) m)) is maps

have-keys : (s : Source) (as' : List (List ℕ × Item)) (maps : List (List (Sub × Field))) → HaveNames as' → RiseAll (map (λ a. a.1) as') maps → ((name : List ℕ) → Rise (s.keys name))
    → ((name : List ℕ) (k : Sub) → IsNamed name as' → IsIn k (s.keys name) → (rest : List Sub) × IsWay (Str name ∷ k ∷ rest) (array_nodes as' maps))
    → ((name : List ℕ) (k : Sub) → IsNamed name as' → IsWay (Str name ∷ k ∷ []) (array_nodes as' maps) → IsIn k (s.keys name))
    → HaveKeys s as' maps
have-keys s [] [] names rise rising to from = tt
have-keys s [] (m ∷ maps) names rise rising to from = absurd rise
have-keys s (a ∷ as') [] names rise rising to from = absurd rise
have-keys s (a ∷ as') (m ∷ maps) names rise rising to from = (
  one_list (s.keys a.0) (map (λ e. e.0) m) (rising a.0) rise.0
      (λ k is. let w = to a.0 k (inl refl) is in array-way a as' m maps k w.0 names.0 w.1)
      (λ k is. from a.0 k (inl refl) (way-array a as' m maps k is)),
  have-keys s as' maps names.1 rise.1 rising
      (λ name k named is. let w = to name k (inr named) is in (w.0, later name k w.0 named (way-append (Str name ∷ k ∷ w.0) (element_nodes a.0 m) (array_nodes as' maps) w.1)))
      (λ name k named is. from name k (inr named) (append-second (Str name ∷ k ∷ []) (element_nodes a.0 m) (array_nodes as' maps) is)),
)
  where
    later : (name : List ℕ) (k : Sub) (rest : List Sub) → IsNamed name as' → IsWay (Str name ∷ k ∷ rest) (element_nodes a.0 m) ⊎ IsWay (Str name ∷ k ∷ rest) (array_nodes as' maps) → IsWay (Str name ∷ k ∷ rest) (array_nodes as' maps)
    later name k rest named (inl e) = absurd (named-apart name a.0 as' names.0 named (sym (element-way name a.0 k rest m e).0))
    later name k rest named (inr r) = r

-- WAYS AND NODES

abbrev at_nodes : Node → List (List Sub × Value) → List (Node × Value)
at_nodes d es = map (λ e. (below d e.0, e.1)) es

way-among : (d : Node) (way : List Sub) (es : List (List Sub × Value)) → IsWay way es → IsAmong (below d way) (at_nodes d es)
way-among d way [] is = is
way-among d way (e ∷ es) (inl is) = inl (ap (below d) is)
way-among d way (e ∷ es) (inr is) = inr (way-among d way es is)

among-way : (d : Node) (way : List Sub) (es : List (List Sub × Value)) → IsAmong (below d way) (at_nodes d es) → IsWay way es
among-way d way [] is = is
among-way d way (e ∷ es) (inl is) = inl (append_cancel_left d.subs way e.0 (ap (λ (n : Node). n.subs) is))
among-way d way (e ∷ es) (inr is) = inr (among-way d way es is)

stands-way : (d : Node) (es : List (List Sub × Value)) (way : List Sub) → contains_key (from_entries {R = node_cmp} (at_nodes d es)) (below d way) ≡ true → IsWay way es
stands-way d es way h = by (get (from_entries (at_nodes d es)) (below d way)) refl h
  where
    by : (o : Option Value) → get (from_entries {R = node_cmp} (at_nodes d es)) (below d way) ≡ o → is_some o ≡ true → IsWay way es
    by None e k = cc
    by (Some v) e k = among-way d way es (among-of (at_nodes d es) (below d way) v (sym (get-from_entries node_total (at_nodes d es) (below d way)) ∙ e))

way-stands : (d : Node) (es : List (List Sub × Value)) (way : List Sub) → IsWay way es → contains_key (from_entries {R = node_cmp} (at_nodes d es)) (below d way) ≡ true
way-stands d es way is = by (find node_cmp (below d way) (at_nodes d es)) refl
  where
    by : (o : Option Value) → find node_cmp (below d way) (at_nodes d es) ≡ o → contains_key (from_entries {R = node_cmp} (at_nodes d es)) (below d way) ≡ true
    by None e = absurd (find-among (at_nodes d es) (below d way) (way-among d way es is) e)
    by (Some v) e = ap is_some (get-from_entries node_total (at_nodes d es) (below d way) ∙ e)

-- NO NODE TWICE

abbrev WaysApart : List (List Sub × Value) → Type 0
WaysApart [] = Unit {0}
WaysApart (e ∷ es) = (IsWay e.0 es → ⊥) × WaysApart es

ways-apart : (d : Node) (es : List (List Sub × Value)) → WaysApart es → AreApart (at_nodes d es)
ways-apart d [] apart = tt
ways-apart d (e ∷ es) apart = (λ is. apart.0 (among-way d e.0 es is), ways-apart d es apart.1)

apart-append : (xs ys : List (List Sub × Value)) → WaysApart xs → WaysApart ys → ((way : List Sub) → IsWay way xs → IsWay way ys → ⊥) → WaysApart (xs ++ ys)
apart-append [] ys a b none = b
apart-append (x ∷ xs) ys a b none =
    (λ is. by (way-append x.0 xs ys is), apart-append xs ys a.1 b (λ way l r. none way (inr l) r))
  where
    by : IsWay x.0 xs ⊎ IsWay x.0 ys → ⊥
    by (inl l) = a.0 l
    by (inr r) = none x.0 (inl refl) r

lower-named : (name : List ℕ) (ls : List (List ℕ × List Form)) (fs : List Field) → IsNotNamed name ls → IsWay (Str name ∷ []) (lower_nodes ls fs) → ⊥
lower-named name [] fs apart is = is
lower-named name (l ∷ ls) fs apart (inl is) = let same : name ≡ l.0 = cc in apart.0 same
lower-named name (l ∷ ls) fs apart (inr is) = lower-named name ls (drop (length l.1) fs) apart.1 is

lower-apart : (ls : List (List ℕ × List Form)) (fs : List Field) → HaveNames ls → WaysApart (lower_nodes ls fs)
lower-apart [] fs names = tt
lower-apart (l ∷ ls) fs names = (lower-named l.0 ls (drop (length l.1) fs) names.0, lower-apart ls (drop (length l.1) fs) names.1)

elements-apart : (name : List ℕ) (m : List (Sub × Field)) → Rise (map (λ e. e.0) m) → WaysApart (element_nodes name m)
elements-apart name [] rise = tt
elements-apart name (e ∷ m) rise =
    (λ is. not_less e.0 (rise-all e.0 (map (λ d. d.0) m) rise e.0 (element-way name name e.0 [] m is).1), elements-apart name m (tail m rise))
  where
    tail : (m : List (Sub × Field)) → RiseFrom e.0 (map (λ d. d.0) m) → Rise (map (λ d. d.0) m)
    tail [] r = tt
    tail (f ∷ m) r = r.1

-- each way of arrays has two steps
two-steps : (way : List Sub) (as' : List (List ℕ × Item)) (maps : List (List (Sub × Field))) → IsWay way (array_nodes as' maps) → (name : List ℕ) × (k : Sub) × IsNamed name as' × (way ≡ Str name ∷ k ∷ [])
two-steps way [] maps is = absurd is
two-steps way (a ∷ as') [] is = absurd is
two-steps way (a ∷ as') (m ∷ maps) is = by (way-append way (element_nodes a.0 m) (array_nodes as' maps) is) (two-steps way as' maps)
  where
    of_element : (m : List (Sub × Field)) → IsWay way (element_nodes a.0 m) → (k : Sub) × (way ≡ Str a.0 ∷ k ∷ [])
    of_element [] e = absurd e
    of_element (f ∷ m) (inl e) = (f.0, e)
    of_element (f ∷ m) (inr e) = of_element m e

    by : IsWay way (element_nodes a.0 m) ⊎ IsWay way (array_nodes as' maps) → (IsWay way (array_nodes as' maps) → (name : List ℕ) × (k : Sub) × IsNamed name as' × (way ≡ Str name ∷ k ∷ [])) → (name : List ℕ) × (k : Sub) × IsNamed name (a ∷ as') × (way ≡ Str name ∷ k ∷ [])
    by (inl e) more = let p = of_element m e in (a.0, p.0, inl refl, p.1)
    by (inr r) more = let p = more r in (p.0, p.1, inr p.2, p.3)

arrays-apart : (as' : List (List ℕ × Item)) (maps : List (List (Sub × Field))) → HaveNames as' → RiseAll (map (λ a. a.1) as') maps → WaysApart (array_nodes as' maps)
arrays-apart [] maps names rise = tt
arrays-apart (a ∷ as') [] names rise = tt
arrays-apart (a ∷ as') (m ∷ maps) names rise =
    apart-append (element_nodes a.0 m) (array_nodes as' maps) (elements-apart a.0 m rise.0) (arrays-apart as' maps names.1 rise.1) (λ way l r.
    let p = two-steps way as' maps r in
    named-apart p.0 a.0 as' names.0 p.2 (sym (element-way p.0 a.0 p.1 [] m (subst (λ (w : List Sub). IsWay w (element_nodes a.0 m)) p.3 l)).0))

-- a list below the row has one step
one-step : (way : List Sub) (ls : List (List ℕ × List Form)) (fs : List Field) → IsWay way (lower_nodes ls fs) → (name : List ℕ) × (way ≡ Str name ∷ [])
one-step way [] fs is = absurd is
one-step way (l ∷ ls) fs (inl is) = (l.0, is)
one-step way (l ∷ ls) fs (inr is) = one-step way ls (drop (length l.1) fs) is

pub rows_apart : (layout : Layout) (mark : List ℕ) (fields : List Field) → HaveDifferentNames layout → RiseAll (map (λ a. a.1) layout.arrays) (maps_in fields) → WaysApart (nodes_below layout mark fields)
rows_apart layout mark fields names rise =
    let own = drop (length layout.root) (rows_in fields) in
    let lower = lower_nodes layout.lower own in
    let arrays = array_nodes layout.arrays (maps_in fields) in (
      λ is. none lower arrays (λ l. let p = one-step [] layout.lower own l in cc) (λ r. let p = two-steps [] layout.arrays (maps_in fields) r in cc) (way-append [] lower arrays is),
      apart-append lower arrays (lower-apart layout.lower own names.lower) (arrays-apart layout.arrays (maps_in fields) names.arrays rise) (λ way l r.
          let p = one-step way layout.lower own l in let q = two-steps way layout.arrays (maps_in fields) r in
          no_lower q.0 q.1 [] layout.lower own (subst (λ (w : List Sub). IsWay w lower) q.3 l)),
    )
  where
    none : (xs ys : List (List Sub × Value)) → (IsWay [] xs → ⊥) → (IsWay [] ys → ⊥) → IsWay [] xs ⊎ IsWay [] ys → ⊥
    none xs ys a b (inl l) = a l
    none xs ys a b (inr r) = b r

weaker : {K B : Type 0} (P Q : K → B → Type 0) → ((k : K) (b : B) → P k b → Q k b) → (ks : List K) (bs : List B) → AreGood P ks bs → AreGood Q ks bs
weaker P Q less [] [] good = tt
weaker P Q less [] (b ∷ bs) good = absurd good
weaker P Q less (k ∷ ks) [] good = absurd good
weaker P Q less (k ∷ ks) (b ∷ bs) good = (less k b good.0, weaker P Q less ks bs good.1)

keys-rise : (classes : List Class) (s : Source) (layout : Layout) (fields : List Field) → IsLaidOut layout → AreOfForms classes layout.forms fields → RiseAll (map (λ a. a.1) layout.arrays) (maps_in fields)
keys-rise classes s layout fields laid good =
    let p = parts classes s layout.forms fields good in
    subst (λ (is : List Item). RiseAll is (maps_in fields)) (sym laid.arrays)
    (weaker (λ i m. Rise (map (λ e. e.0) m) × EachGood (λ e. IsRowField classes (single i) e.1) m) (λ i m. Rise (map (λ e. e.0) m)) (λ i m h. h.0) (filter_map keyed_item layout.forms) (maps_in fields) p.maps_good)

in-arrays : (name : List ℕ) (k : Sub) (rest : List Sub) (first : Value) (ls : List (List ℕ × List Form)) (fs : List Field) (arrays : List (List Sub × Value)) → IsWay (Str name ∷ k ∷ rest) (([], first) ∷ lower_nodes ls fs ++ arrays) → IsWay (Str name ∷ k ∷ rest) arrays
in-arrays name k rest first ls fs arrays (inl is) = cc
in-arrays name k rest first ls fs arrays (inr is) = by (way-append (Str name ∷ k ∷ rest) (lower_nodes ls fs) arrays is)
  where
    by : IsWay (Str name ∷ k ∷ rest) (lower_nodes ls fs) ⊎ IsWay (Str name ∷ k ∷ rest) arrays → IsWay (Str name ∷ k ∷ rest) arrays
    by (inl l) = absurd (no_lower name k rest ls fs l)
    by (inr r) = r

-- a true source of the rows is a source of the record
pub true_source : (classes : List Class) (key : Key) (s : Source) (r : Record) → IsLaidOut (layout_of classes r.class) → HaveDifferentNames (layout_of classes r.class) → AreOfForms classes (layout_of classes r.class).forms r.fields
    → IsTrueSource (rows classes key r) (data_node key) s → IsSourceOf classes key s r
unfolding rows row_list
true_source classes key s r laid names good source =
    let layout = layout_of classes r.class in
    let nodes = nodes_below layout (marker key.extent r.class) r.fields in
    let rise : RiseAll (map (λ a. a.1) layout.arrays) (maps_in r.fields) = keys-rise classes s layout r.fields laid good in
    record {
      apart = ways-apart (data_node key) nodes (rows_apart layout (marker key.extent r.class) r.fields names rise);
      values = source.values;
      keys = have-keys s layout.arrays (maps_in r.fields) names.arrays rise source.rising
          (λ name k named is. let t = source.true_keys name k is in (t.0, in-arrays name k t.0 (value.List (value.Str (marker key.extent r.class) ∷ map item (take (length layout.root) (rows_in r.fields)))) layout.lower (drop (length layout.root) (rows_in r.fields)) (array_nodes layout.arrays (maps_in r.fields)) (stands-way (data_node key) nodes (Str name ∷ k ∷ t.0) t.1)))
          (λ name k named is. source.all_keys name k ([], way-stands (data_node key) nodes (Str name ∷ k ∷ []) (inr (append-second (Str name ∷ k ∷ []) (lower_nodes layout.lower (drop (length layout.root) (rows_in r.fields))) (array_nodes layout.arrays (maps_in r.fields)) is))));
      rising = source.rising;
    }
