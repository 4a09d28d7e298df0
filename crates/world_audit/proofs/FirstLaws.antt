-- Of equal keys of a unique index all entries but the one of the least id are noted.
use Rattle.std.proofs.Common.{◌≡◌, ◌≢◌, ◌⊎◌, inl, inr, ℕ, pos, Bool, true, false, cond, nat_eq, nat_lt, ◌||◌, List, [], ◌∷◌, ◌++◌, map, filter, length, Option, None, Some, option_map, option_to_list, refl, sym, ap, subst, ◌∙◌, arith}
use Rattle.std.specs.declared.cmp.Ordering.{Ordering}
use Rattle.std.specs.declared.cmp.Ordering.TheVariants.{Less, Equal, Greater}
use Rattle.std.specs.Ordering.{is_lt, is_eq, eq_by_cmp, ordering_then, nat_cmp, int_cmp}
use Rattle.std.specs.Cmp.Lexicographic.{slice_cmp, nat_list_cmp_total}
use Rattle.std.specs.Fmt.{decimal}
use Rattle.std.specs.List.{list_any}
use Rattle.std.specs.FinMap.{find}
use Rattle.std.specs.FinMap.Entries.{find-put}
use Rattle.std.specs.BTreeMap.{insert_entry}
use Rattle.std.proofs.lemmas.Bool.{eqb-true, eq-eqb, ltb-true, ltb-false}
use Rattle.std.proofs.lemmas.Cmp.{tied_itself}
use Rattle.obj_kinds.specs.declared.node.Node.{Node}
use Rattle.obj_kinds.specs.declared.sub.Sub.{Sub}
use Rattle.obj_kinds.specs.declared.sub.Sub.TheVariants.{Num}
use Rattle.obj_kinds.specs.Ids.{IsId, id_text}
use Rattle.obj_kinds.specs.Subscript.{sub_of, sub_by}
use Rattle.obj_kinds.specs.Order.{sub_cmp, node_cmp}
use Rattle.obj_kinds.specs.OrderLaws.{node_total, node_exact, sub_total}
use Rattle.obj_kinds.proofs.Numbers.{whole_of-printed}
use Rattle.obj_kinds.proofs.TextLaws.{text_ties-itself}
use Rattle.global_tree.proofs.MapLaws.{one_key}
use Rattle.schema_kinds.specs.declared.class.Class.{Class}
use Rattle.schema_kinds.specs.declared.class.Index.{Index}
use Rattle.schema_kinds.specs.declared.key.Key.{Key}
use Rattle.schema_kinds.specs.declared.prop.Prop.{Prop}
use Rattle.schema_kinds.specs.declared.record.Field.{Field}
use Rattle.schema_kinds.specs.declared.record.Record.{Record}
use Rattle.schema_kinds.specs.Classes.{class_of}
use Rattle.storage_map.specs.Entries.{index_key, key_node, indexes_of, props_in, with_fields}
use Rattle.storage_map.specs.Keys.{same_node, unique_in}
use Rattle.storage_map.specs.SoundWorlds.{has_key_node}
use Rattle.world_audit.specs.declared.found.Found.{Found}
use Rattle.world_audit.specs.Faults.{entry_below}
use Rattle.world_audit.specs.Finds.{Finds}
use Rattle.world_audit.specs.Firsts.{unique_node, unique_nodes, record_nodes, nodes_of_found, Firsts, is_earlier, put_first, put_firsts, firsts_of}
use Rattle.world_audit.specs.Least.{IsElement}
use Rattle.world_audit.proofs.FindLaws.{put_same}

abbrev id_cmp : List ℕ → List ℕ → Ordering
id_cmp = slice_cmp nat_cmp

-- ---- the nodes of a record's keys

element_append : (n : Node) (xs ys : List Node) → IsElement n (xs ++ ys) → IsElement n xs ⊎ IsElement n ys
element_append n [] ys h = inr h
element_append n (x ∷ xs) ys (inl same) = inl (inl same)
element_append n (x ∷ xs) ys (inr more) = by (element_append n xs ys more)
  where
    by : IsElement n xs ⊎ IsElement n ys → IsElement n (x ∷ xs) ⊎ IsElement n ys
    by (inl h) = inl (inr h)
    by (inr h) = inr h

element_behind : (n : Node) (xs ys : List Node) → IsElement n ys → IsElement n (xs ++ ys)
element_behind n [] ys h = h
element_behind n (x ∷ xs) ys h = inr (element_behind n xs ys h)

element_front : (n : Node) (xs ys : List Node) → IsElement n xs → IsElement n (xs ++ ys)
element_front n [] ys h = absurd h
element_front n (x ∷ xs) ys (inl same) = inl same
element_front n (x ∷ xs) ys (inr more) = inr (element_front n xs ys more)

module _ (key : Key) (valued : List (Prop × Field)) (n : Node) where
  abbrev has_one : List Index → Bool
  has_one is = list_any (λ u. same_node u.node (Some n)) (map (unique_in key valued) (filter (λ i. i.unique) is))

  nodes_has : (is : List Index) → IsElement n (unique_nodes key valued is) → has_one is ≡ true
  nodes_has [] h = absurd h
  nodes_has (i ∷ is) h = by i.unique refl (element_append n (option_to_list (unique_node key valued i)) (unique_nodes key valued is) h) (nodes_has is)
    where
      at : (o : Option Node) → IsElement n (option_to_list o) → (same_node o (Some n) || has_one is) ≡ true
      at None k = absurd k
      at (Some m) (inl same) = ap (λ b. b || has_one is) (ap (λ j. eq_by_cmp node_cmp m j) same ∙ ap is_eq (tied_itself node_total m))
      at (Some m) (inr k) = absurd k

      later : (b : Bool) → has_one is ≡ true → (b || has_one is) ≡ true
      later true k = refl
      later false k = k

      by : (b : Bool) → i.unique ≡ b → IsElement n (option_to_list (cond b (option_map (key_node key i.name) (index_key i valued)) None)) ⊎ IsElement n (unique_nodes key valued is)
          → (IsElement n (unique_nodes key valued is) → has_one is ≡ true) → list_any (λ u. same_node u.node (Some n)) (map (unique_in key valued) (cond b (i ∷ filter (λ j. j.unique) is) (filter (λ j. j.unique) is))) ≡ true
      by true e (inl k) more = at (option_map (key_node key i.name) (index_key i valued)) k
      by true e (inr k) more = later (same_node (option_map (key_node key i.name) (index_key i valued)) (Some n)) (more k)
      by false e (inl k) more = absurd k
      by false e (inr k) more = more k

  has_nodes : (is : List Index) → has_one is ≡ true → IsElement n (unique_nodes key valued is)
  has_nodes [] h = cc
  has_nodes (i ∷ is) h = by i.unique refl h (has_nodes is)
    where
      at : (o : Option Node) (b : Bool) → same_node o (Some n) ≡ b → (b || has_one is) ≡ true → (has_one is ≡ true → IsElement n (unique_nodes key valued is)) → IsElement n (option_to_list o ++ unique_nodes key valued is)
      at None true e k more = cc
      at None false e k more = more k
      at (Some m) true e k more = inl (sym (one_key node_exact m n e))
      at (Some m) false e k more = inr (more k)

      by : (b : Bool) → i.unique ≡ b → list_any (λ u. same_node u.node (Some n)) (map (unique_in key valued) (cond b (i ∷ filter (λ j. j.unique) is) (filter (λ j. j.unique) is))) ≡ true
          → (has_one is ≡ true → IsElement n (unique_nodes key valued is)) → IsElement n (option_to_list (cond b (option_map (key_node key i.name) (index_key i valued)) None) ++ unique_nodes key valued is)
      by true e k more = at (option_map (key_node key i.name) (index_key i valued)) (same_node (option_map (key_node key i.name) (index_key i valued)) (Some n)) refl k more
      by false e k more = more k

pub record_has : (classes : List Class) (key : Key) (r : Record) (n : Node) → IsElement n (record_nodes classes key r) → has_key_node classes key r n ≡ true
unfolding record_nodes
record_has classes key r n h = nodes_has key (with_fields (props_in (class_of classes r.class)) r.fields) n (indexes_of (class_of classes r.class)) h

pub has_record : (classes : List Class) (key : Key) (r : Record) (n : Node) → has_key_node classes key r n ≡ true → IsElement n (record_nodes classes key r)
unfolding record_nodes
has_record classes key r n h = has_nodes key (with_fields (props_in (class_of classes r.class)) r.fields) n (indexes_of (class_of classes r.class)) h

-- ---- the least id of each node

abbrev pub IsAtMost : Option (List ℕ) → List ℕ → Type 0
IsAtMost None id = ⊥
IsAtMost (Some known) id = id_cmp id known ≢ Less

is_less : (r : Ordering) → is_lt r ≡ true → r ≡ Less
is_less Less h = refl
is_less Equal h = cc
is_less Greater h = cc

not_less : (r : Ordering) → is_lt r ≡ false → r ≢ Less
not_less r h e = let is : is_lt r ≡ true = ap is_lt e in cc

put_found : (firsts : Firsts) (id : List ℕ) (m n : Node) → find node_cmp n (insert_entry node_cmp firsts m id) ≡ cond (eq_by_cmp node_cmp n m) (Some id) (find node_cmp n firsts)
put_found firsts id m n = ap (find node_cmp n) (put_same node_cmp firsts m id) ∙ find-put node_cmp node_total n m id firsts

first_keeps : (firsts : Firsts) (id : List ℕ) (m n : Node) (j : List ℕ) → IsAtMost (find node_cmp n firsts) j → IsAtMost (find node_cmp n (put_first firsts id m)) j
first_keeps firsts id m n j h = by (is_earlier (find node_cmp m firsts) id) refl
  where
    lower : (o : Option (List ℕ)) → is_earlier o id ≡ true → IsAtMost o j → id_cmp j id ≢ Less
    lower None e k = absurd k
    lower (Some known) e k = λ less. k (nat_list_cmp_total.trans j id known less (is_less (id_cmp id known) e))

    at : (b : Bool) → eq_by_cmp node_cmp n m ≡ b → is_earlier (find node_cmp m firsts) id ≡ true → IsAtMost (cond b (Some id) (find node_cmp n firsts)) j
    at true t e = lower (find node_cmp m firsts) e (subst (λ k. IsAtMost (find node_cmp k firsts) j) (one_key node_exact n m t) h)
    at false t e = h

    by : (b : Bool) → is_earlier (find node_cmp m firsts) id ≡ b → IsAtMost (find node_cmp n (cond b (insert_entry node_cmp firsts m id) firsts)) j
    by true e = subst (λ o. IsAtMost o j) (sym (put_found firsts id m n)) (at (eq_by_cmp node_cmp n m) refl e)
    by false e = h

first_new : (firsts : Firsts) (id : List ℕ) (n : Node) → IsAtMost (find node_cmp n (put_first firsts id n)) id
first_new firsts id n = by (find node_cmp n firsts) refl
  where
    itself : id_cmp id id ≢ Less
    itself e = let tie = tied_itself nat_list_cmp_total id in cc

    put_here : IsAtMost (find node_cmp n (insert_entry node_cmp firsts n id)) id
    put_here = subst (λ o. IsAtMost o id) (sym (put_found firsts id n n ∙ ap (λ r. cond (is_eq r) (Some id) (find node_cmp n firsts)) (tied_itself node_total n))) itself

    with_known : (known : List ℕ) → find node_cmp n firsts ≡ Some known → (b : Bool) → is_lt (id_cmp id known) ≡ b → IsAtMost (find node_cmp n (cond b (insert_entry node_cmp firsts n id) firsts)) id
    with_known known e true t = put_here
    with_known known e false t = subst (λ o. IsAtMost o id) (sym e) (not_less (id_cmp id known) t)

    by : (o : Option (List ℕ)) → find node_cmp n firsts ≡ o → IsAtMost (find node_cmp n (cond (is_earlier o id) (insert_entry node_cmp firsts n id) firsts)) id
    by None e = put_here
    by (Some known) e = with_known known e (is_lt (id_cmp id known)) refl

first_from : (firsts : Firsts) (id : List ℕ) (m n : Node) (k : List ℕ) → find node_cmp n (put_first firsts id m) ≡ Some k → (find node_cmp n firsts ≡ Some k) ⊎ ((n ≡ m) × (k ≡ id))
first_from firsts id m n k h = by (is_earlier (find node_cmp m firsts) id) h
  where
    at : (b : Bool) → eq_by_cmp node_cmp n m ≡ b → cond b (Some id) (find node_cmp n firsts) ≡ Some k → (find node_cmp n firsts ≡ Some k) ⊎ ((n ≡ m) × (k ≡ id))
    at true t j = let same : k ≡ id = cc in inr (one_key node_exact n m t, same)
    at false t j = inl j

    by : (b : Bool) → find node_cmp n (cond b (insert_entry node_cmp firsts m id) firsts) ≡ Some k → (find node_cmp n firsts ≡ Some k) ⊎ ((n ≡ m) × (k ≡ id))
    by true j = at (eq_by_cmp node_cmp n m) refl (sym (put_found firsts id m n) ∙ j)
    by false j = inl j

all_keep : (ns : List Node) (firsts : Firsts) (id : List ℕ) (n : Node) (j : List ℕ) → IsAtMost (find node_cmp n firsts) j → IsAtMost (find node_cmp n (put_firsts firsts id ns)) j
all_keep [] firsts id n j h = h
all_keep (m ∷ ms) firsts id n j h = all_keep ms (put_first firsts id m) id n j (first_keeps firsts id m n j h)

all_new : (ns : List Node) (firsts : Firsts) (id : List ℕ) (n : Node) → IsElement n ns → IsAtMost (find node_cmp n (put_firsts firsts id ns)) id
all_new [] firsts id n h = absurd h
all_new (m ∷ ms) firsts id n (inl same) = all_keep ms (put_first firsts id m) id n id (subst (λ k. IsAtMost (find node_cmp k (put_first firsts id m)) id) (sym same) (first_new firsts id m))
all_new (m ∷ ms) firsts id n (inr more) = all_new ms (put_first firsts id m) id n more

all_from : (ns : List Node) (firsts : Firsts) (id : List ℕ) (n : Node) (k : List ℕ) → find node_cmp n (put_firsts firsts id ns) ≡ Some k → (find node_cmp n firsts ≡ Some k) ⊎ (IsElement n ns × (k ≡ id))
all_from [] firsts id n k h = inl h
all_from (m ∷ ms) firsts id n k h = by (all_from ms (put_first firsts id m) id n k h)
  where
    here : (find node_cmp n firsts ≡ Some k) ⊎ ((n ≡ m) × (k ≡ id)) → (find node_cmp n firsts ≡ Some k) ⊎ (IsElement n (m ∷ ms) × (k ≡ id))
    here (inl j) = inl j
    here (inr j) = inr (inl j.0, j.1)

    by : (find node_cmp n (put_first firsts id m) ≡ Some k) ⊎ (IsElement n ms × (k ≡ id)) → (find node_cmp n firsts ≡ Some k) ⊎ (IsElement n (m ∷ ms) × (k ≡ id))
    by (inl j) = here (first_from firsts id m n k j)
    by (inr j) = inr (inr j.0, j.1)

finds_keep : (classes : List Class) (es : Finds) (firsts : Firsts) (n : Node) (j : List ℕ) → IsAtMost (find node_cmp n firsts) j → IsAtMost (find node_cmp n (firsts_of classes firsts es)) j
finds_keep classes [] firsts n j h = h
finds_keep classes (e ∷ es) firsts n j h = finds_keep classes es (put_firsts firsts e.0.id (nodes_of_found classes e)) n j (all_keep (nodes_of_found classes e) firsts e.0.id n j h)

-- no id that has the key is before the one that is kept
pub first_is_least : (classes : List Class) (es : Finds) (firsts : Firsts) (e : Key × Found) (n : Node) → IsElement e es → IsElement n (nodes_of_found classes e) → IsAtMost (find node_cmp n (firsts_of classes firsts es)) e.0.id
first_is_least classes [] firsts e n is h = absurd is
first_is_least classes (d ∷ ds) firsts e n (inl same) h =
    subst (λ (f : Key × Found). IsAtMost (find node_cmp n (firsts_of classes (put_firsts firsts d.0.id (nodes_of_found classes d)) ds)) f.0.id) (sym same)
    (finds_keep classes ds (put_firsts firsts d.0.id (nodes_of_found classes d)) n d.0.id (all_new (nodes_of_found classes d) firsts d.0.id n (subst (λ (f : Key × Found). IsElement n (nodes_of_found classes f)) same h)))
first_is_least classes (d ∷ ds) firsts e n (inr more) h = first_is_least classes ds (put_firsts firsts d.0.id (nodes_of_found classes d)) e n more h

-- which is that of an object with the key
pub first_has : (classes : List Class) (es : Finds) (firsts : Firsts) (n : Node) (k : List ℕ) → find node_cmp n (firsts_of classes firsts es) ≡ Some k → (find node_cmp n firsts ≡ Some k) ⊎ ((e : Key × Found) × IsElement e es × IsElement n (nodes_of_found classes e) × (k ≡ e.0.id))
first_has classes [] firsts n k h = inl h
first_has classes (e ∷ es) firsts n k h = by (first_has classes es (put_firsts firsts e.0.id (nodes_of_found classes e)) n k h)
  where
    here : (find node_cmp n firsts ≡ Some k) ⊎ (IsElement n (nodes_of_found classes e) × (k ≡ e.0.id)) → (find node_cmp n firsts ≡ Some k) ⊎ ((d : Key × Found) × IsElement d (e ∷ es) × IsElement n (nodes_of_found classes d) × (k ≡ d.0.id))
    here (inl j) = inl j
    here (inr j) = inr (e, inl refl, j.0, j.1)

    by : (find node_cmp n (put_firsts firsts e.0.id (nodes_of_found classes e)) ≡ Some k) ⊎ ((d : Key × Found) × IsElement d es × IsElement n (nodes_of_found classes d) × (k ≡ d.0.id))
        → (find node_cmp n firsts ≡ Some k) ⊎ ((d : Key × Found) × IsElement d (e ∷ es) × IsElement n (nodes_of_found classes d) × (k ≡ d.0.id))
    by (inl j) = here (all_from (nodes_of_found classes e) firsts e.0.id n k j)
    by (inr j) = inr (j.0, inr j.1, j.2, j.3)

-- ---- entries below a node go by their ids

front_cmp : (front : List Sub) (a b : Sub) → slice_cmp sub_cmp (front ++ a ∷ []) (front ++ b ∷ []) ≡ ordering_then (sub_cmp a b) Equal
front_cmp [] a b = refl
front_cmp (s ∷ front) a b = ap (λ r. ordering_then r (slice_cmp sub_cmp (front ++ a ∷ []) (front ++ b ∷ []))) (tied_itself sub_total s) ∙ front_cmp front a b

same_cmp : (m n : ℕ) → int_cmp (pos m) (pos n) ≡ nat_cmp m n
same_cmp m n = by (nat_lt m n) refl
  where
    at : nat_lt m n ≡ false → (a b : Bool) → nat_lt n m ≡ a → nat_eq m n ≡ b → cond a Greater Equal ≡ cond b Equal Greater
    at low true true e f = let less = ltb-true n m e in let same = eqb-true m n f in absurd (omega (arith, less, same))
    at low true false e f = refl
    at low false true e f = refl
    at low false false e f =
        let first = ltb-false m n low in
        let second = ltb-false n m e in
        let same : m ≡ n = omega (arith, first, second) in
        let yes = eq-eqb m n same in
        cc

    by : (b : Bool) → nat_lt m n ≡ b → cond b Less (cond (nat_lt n m) Greater Equal) ≡ cond b Less (cond (nat_eq m n) Equal Greater)
    by true e = refl
    by false e = at e (nat_lt n m) (nat_eq m n) refl refl

one_number : (id : List ℕ) → IsId id → length id ≡ 1 → (m : ℕ) × (id ≡ m ∷ []) × (sub_of (id_text id) ≡ Num (pos m))
one_number [] h one = absurd h
one_number (m ∷ []) h one = (m, refl, ap (sub_by (decimal m)) (whole_of-printed (decimal m) (pos m) h.1 refl))
one_number (a ∷ b ∷ more) h one = absurd (omega (arith, one))

pub entries_go_by_ids : (n : Node) (a b : Key) → IsId a.id → length a.id ≡ 1 → IsId b.id → length b.id ≡ 1 → node_cmp (entry_below n a) (entry_below n b) ≡ id_cmp a.id b.id
unfolding node_cmp
entries_go_by_ids n a b ia la ib lb =
    let p = one_number a.id ia la in
    let q = one_number b.id ib lb in
    ap (λ r. ordering_then r (slice_cmp sub_cmp (n.subs ++ sub_of (id_text a.id) ∷ []) (n.subs ++ sub_of (id_text b.id) ∷ []))) (text_ties-itself n.global)
    ∙ front_cmp n.subs (sub_of (id_text a.id)) (sub_of (id_text b.id))
    ∙ (λ i. ordering_then (sub_cmp (p.2 i) (q.2 i)) Equal)
    ∙ ap (λ r. ordering_then r Equal) (same_cmp p.0 q.0)
    ∙ sym (λ i. id_cmp (p.1 i) (q.1 i))
