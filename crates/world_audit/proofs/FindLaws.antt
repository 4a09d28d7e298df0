-- What is found of all keys.
use Rattle.std.proofs.Common.{◌≡◌, inl, inr, Bool, true, false, cond, List, [], ◌∷◌, Option, None, Some, is_some, IsTrue, refl, sym, ap, ◌∙◌}
use Rattle.std.specs.declared.cmp.Ordering.{Ordering}
use Rattle.std.specs.declared.cmp.Ordering.TheVariants.{Less, Equal, Greater}
use Rattle.std.specs.Ordering.{is_lt, is_eq, eq_by_cmp, ordering_reverse}
use Rattle.std.specs.Cmp.{IsTotalOrder}
use Rattle.std.specs.List.{filter_map}
use Rattle.std.specs.BTreeMap.{insert_entry}
use Rattle.std.specs.FinMap.{IsAntisymmetric, find, get, put, is_sorted, from_sorted, get-from_sorted}
use Rattle.std.specs.FinMap.Entries.{below_all, find-put, is_sorted-put}
use Rattle.std.proofs.lemmas.Cmp.{tied_itself}
use Rattle.obj_kinds.specs.declared.node.Node.{Node}
use Rattle.obj_kinds.specs.declared.value.Value.{Value}
use Rattle.obj_kinds.proofs.Sorted.{less, first, second, both, truth, stays}
use Rattle.global_tree.proofs.MapLaws.{one_key}
use Rattle.schema_kinds.specs.declared.class.Class.{Class}
use Rattle.schema_kinds.specs.declared.key.Key.{Key}
use Rattle.schema_kinds.specs.declared.record.Record.{Record}
use Rattle.schema_kinds.specs.KeyLaws.{key_total, key_exact}
use Rattle.schema_kinds.specs.Worlds.{key_cmp}
use Rattle.world_audit.specs.declared.found.Found.{Found}
use Rattle.world_audit.specs.declared.found.Found.TheVariants.{Whole, Broken}
use Rattle.world_audit.specs.Finds.{Finds, found_at, with_key, with_nodes, with_own, wholes}
use Rattle.world_audit.specs.Least.{IsElement}
use Rattle.world_audit.specs.Objects.{Told}
use Rattle.world_audit.specs.Owners.{row_key}

-- ---- pairs in rising order

pub put_same : {K X : Type 0} (R : K → K → Ordering) (es : List (K × X)) (k : K) (v : X) → insert_entry R es k v ≡ put R k v es
put_same R [] k v = refl
put_same R (e ∷ es) k v = by (R k e.0) refl (put_same R es k v)
  where
    by : (o : Ordering) → R k e.0 ≡ o → insert_entry R es k v ≡ put R k v es → insert_entry R (e ∷ es) k v ≡ put R k v (e ∷ es)
    by Less h more = rw h refl
    by Equal h more = rw h refl
    by Greater h more = rw h (ap (λ fs. e ∷ fs) more)

module _ {K X : Type 0} (R : K → K → Ordering) (o : IsTotalOrder R) (exact : IsAntisymmetric R) where
  pub found_element : (es : List (K × X)) (k : K) (v : X) → find R k es ≡ Some v → IsElement (k, v) es
  found_element [] k v h = cc
  found_element (e ∷ es) k v h = by (eq_by_cmp R k e.0) refl h (found_element es k v)
    where
      by : (b : Bool) → eq_by_cmp R k e.0 ≡ b → cond b (Some e.1) (find R k es) ≡ Some v → (find R k es ≡ Some v → IsElement (k, v) es) → IsElement (k, v) (e ∷ es)
      by true t j more = let key : k ≡ e.0 = one_key exact k e.0 t in let value : v ≡ e.1 = cc in inl (λ i. (key i, value i))
      by false t j more = inr (more j)

  below_element : (x : K) (es : List (K × X)) (e : K × X) → IsTrue (below_all R x es) → IsElement e es → R x e.0 ≡ Less
  below_element x [] e h is = absurd is
  below_element x (d ∷ ds) e h (inl same) = ap (λ (p : K × X). R x p.0) same ∙ less _ (first (is_lt (R x d.0)) (below_all R x ds) h)
  below_element x (d ∷ ds) e h (inr more) = below_element x ds e (second (is_lt (R x d.0)) (below_all R x ds) h) more

  pub element_found : (es : List (K × X)) (e : K × X) → IsTrue (is_sorted R es) → IsElement e es → find R e.0 es ≡ Some e.1
  element_found [] e h is = absurd is
  element_found (d ∷ ds) e h (inl same) =
      ap (λ (p : K × X). find R p.0 (d ∷ ds)) same ∙ ap (λ r. cond (is_eq r) (Some d.1) (find R d.0 ds)) (tied_itself o d.0) ∙ ap (λ (p : K × X). Some p.1) (sym same)
  element_found (d ∷ ds) e h (inr more) =
      let before = below_element d.0 ds e (first (below_all R d.0 ds) (is_sorted R ds) h) more in
      ap (λ r. cond (is_eq r) (Some d.1) (find R e.0 ds)) (o.antisymm e.0 d.0 ∙ ap ordering_reverse before) ∙ element_found ds e (second (below_all R d.0 ds) (is_sorted R ds) h) more

-- ---- whole records

wholes_below : (k : Key) (finds : Finds) → IsTrue (below_all key_cmp k finds) → IsTrue (below_all key_cmp k (wholes finds))
wholes_below k [] h = refl
wholes_below k (e ∷ es) h = by e.1 refl (wholes_below k es (second (is_lt (key_cmp k e.0)) (below_all key_cmp k es) h))
  where
    by : (f : Found) → e.1 ≡ f → IsTrue (below_all key_cmp k (wholes es)) → IsTrue (below_all key_cmp k (Rattle.std.specs.List.cons_option (with_own e.0 f) (wholes es)))
    by (Whole r) is rest = both (is_lt (key_cmp k e.0)) (below_all key_cmp k (wholes es)) (first (is_lt (key_cmp k e.0)) (below_all key_cmp k es) h) rest
    by (Broken n) is rest = rest

pub wholes_rise : (finds : Finds) → IsTrue (is_sorted key_cmp finds) → IsTrue (is_sorted key_cmp (wholes finds))
wholes_rise [] h = refl
wholes_rise (e ∷ es) h = by e.1 (wholes_rise es (second (below_all key_cmp e.0 es) (is_sorted key_cmp es) h))
  where
    by : (f : Found) → IsTrue (is_sorted key_cmp (wholes es)) → IsTrue (is_sorted key_cmp (Rattle.std.specs.List.cons_option (with_own e.0 f) (wholes es)))
    by (Whole r) rest = both (below_all key_cmp e.0 (wholes es)) (is_sorted key_cmp (wholes es)) (wholes_below e.0 es (first (below_all key_cmp e.0 es) (is_sorted key_cmp es) h)) rest
    by (Broken n) rest = rest

abbrev pub whole_of : Option Found → Option Record
whole_of None = None
whole_of (Some (Whole r)) = Some r
whole_of (Some (Broken n)) = None

-- the record of a key among them, for keys that rise
pub find_whole : (finds : Finds) (k : Key) → IsTrue (is_sorted key_cmp finds) → find key_cmp k (wholes finds) ≡ whole_of (find key_cmp k finds)
find_whole [] k rises = refl
find_whole (e ∷ es) k rises = by e.1 (eq_by_cmp key_cmp k e.0) refl (find_whole es k (second (below_all key_cmp e.0 es) (is_sorted key_cmp es) rises))
  where
    none : (fs : Finds) → IsTrue (below_all key_cmp e.0 fs) → eq_by_cmp key_cmp k e.0 ≡ true → find key_cmp k fs ≡ None
    none [] h t = refl
    none (f ∷ fs) h t =
        let same = one_key key_exact k e.0 t in
        let before = less _ (first (is_lt (key_cmp e.0 f.0)) (below_all key_cmp e.0 fs) h) in
        ap (λ r. cond (is_eq r) (Some f.1) (find key_cmp k fs)) (ap (λ (j : Key). key_cmp j f.0) same ∙ before) ∙ none fs (second (is_lt (key_cmp e.0 f.0)) (below_all key_cmp e.0 fs) h) t

    by : (f : Found) (b : Bool) → eq_by_cmp key_cmp k e.0 ≡ b → find key_cmp k (wholes es) ≡ whole_of (find key_cmp k es)
        → find key_cmp k (Rattle.std.specs.List.cons_option (with_own e.0 f) (wholes es)) ≡ whole_of (cond b (Some f) (find key_cmp k es))
    by (Whole r) true t rest = ap (λ b. cond b (Some r) (find key_cmp k (wholes es))) t
    by (Whole r) false t rest = ap (λ b. cond b (Some r) (find key_cmp k (wholes es))) t ∙ rest
    by (Broken n) true t rest = rest ∙ ap whole_of (none es (first (below_all key_cmp e.0 es) (is_sorted key_cmp es) rises) t)
    by (Broken n) false t rest = rest

-- ---- the keys of nodes

module _ (classes : List Class) (nodes : Told) where
  -- what is found of a key, which is that of some node
  pub record IsFound (k : Key) (f : Found) : Type 0 where
    pub is : f ≡ found_at classes nodes k
    pub node : Node
    pub value : Value
    pub there : IsElement (node, value) nodes
    pub belongs : row_key classes node ≡ Some k

  AreGood : Finds → Type 0
  AreGood finds = (k : Key) (f : Found) → find key_cmp k finds ≡ Some f → IsFound k f

  find_more : (finds : Finds) (j k : Key) → find key_cmp k (insert_entry key_cmp finds j (found_at classes nodes j)) ≡ cond (eq_by_cmp key_cmp k j) (Some (found_at classes nodes j)) (find key_cmp k finds)
  find_more finds j k = ap (find key_cmp k) (put_same key_cmp finds j (found_at classes nodes j)) ∙ find-put key_cmp key_total k j (found_at classes nodes j) finds

  kept_key : (finds : Finds) (o : Option Key) (k : Key) (f : Found) → find key_cmp k finds ≡ Some f → find key_cmp k (with_key classes nodes finds o) ≡ Some f
  kept_key finds None k f h = h
  kept_key finds (Some j) k f h = by (is_some (find key_cmp j finds)) refl
    where
      at : (b : Bool) → eq_by_cmp key_cmp k j ≡ b → is_some (find key_cmp j finds) ≡ false → cond b (Some (found_at classes nodes j)) (find key_cmp k finds) ≡ Some f
      at true t gone = let yes : is_some (find key_cmp j finds) ≡ true = ap (λ (i : Key). is_some (find key_cmp i finds)) (sym (one_key key_exact k j t)) ∙ ap is_some h in cc
      at false t gone = h

      by : (b : Bool) → is_some (find key_cmp j finds) ≡ b → find key_cmp k (cond b finds (insert_entry key_cmp finds j (found_at classes nodes j))) ≡ Some f
      by true e = h
      by false e = find_more finds j k ∙ at (eq_by_cmp key_cmp k j) refl e

  pub kept : (es : Told) (finds : Finds) (k : Key) (f : Found) → find key_cmp k finds ≡ Some f → find key_cmp k (with_nodes classes nodes finds es) ≡ Some f
  kept [] finds k f h = h
  kept (e ∷ es) finds k f h = kept es (with_key classes nodes finds (row_key classes e.0)) k f (kept_key finds (row_key classes e.0) k f h)

  good_key : (finds : Finds) (e : Node × Value) (o : Option Key) → IsElement e nodes → row_key classes e.0 ≡ o → AreGood finds → AreGood (with_key classes nodes finds o)
  unfolding AreGood
  good_key finds e None there is good = good
  good_key finds e (Some j) there is good = λ k f h. by (is_some (find key_cmp j finds)) k f h
    where
      at : (k : Key) (f : Found) (b : Bool) → eq_by_cmp key_cmp k j ≡ b → cond b (Some (found_at classes nodes j)) (find key_cmp k finds) ≡ Some f → IsFound k f
      at k f true t h =
          let same = one_key key_exact k j t in
          let what : f ≡ found_at classes nodes j = cc in
          record { is = what ∙ ap (found_at classes nodes) (sym same); node = e.0; value = e.1; there = there; belongs = is ∙ ap Some (sym same) }
      at k f false t h = good k f h

      by : (b : Bool) (k : Key) (f : Found) → find key_cmp k (cond b finds (insert_entry key_cmp finds j (found_at classes nodes j))) ≡ Some f → IsFound k f
      by true k f h = good k f h
      by false k f h = at k f (eq_by_cmp key_cmp k j) refl (sym (find_more finds j k) ∙ h)

  good_all : (es : Told) (finds : Finds) → ((e : Node × Value) → IsElement e es → IsElement e nodes) → AreGood finds → AreGood (with_nodes classes nodes finds es)
  good_all [] finds within good = good
  good_all (e ∷ es) finds within good = good_all es (with_key classes nodes finds (row_key classes e.0)) (λ d h. within d (inr h)) (good_key finds e (row_key classes e.0) (within e (inl refl)) refl good)

  none_good : AreGood []
  unfolding AreGood
  none_good = λ k f h. let no : None ≡ Some f = h in cc

  pub finds_sound : (k : Key) (f : Found) → find key_cmp k (with_nodes classes nodes [] nodes) ≡ Some f → IsFound k f
  unfolding AreGood
  finds_sound = good_all nodes [] (λ e h. h) none_good

  new_key : (finds : Finds) (k : Key) → AreGood finds → find key_cmp k (with_key classes nodes finds (Some k)) ≡ Some (found_at classes nodes k)
  unfolding AreGood
  new_key finds k good = by (find key_cmp k finds) refl
    where
      by : (o : Option Found) → find key_cmp k finds ≡ o → find key_cmp k (cond (is_some o) finds (insert_entry key_cmp finds k (found_at classes nodes k))) ≡ Some (found_at classes nodes k)
      by None e = find_more finds k k ∙ ap (λ r. cond (is_eq r) (Some (found_at classes nodes k)) (find key_cmp k finds)) (tied_itself key_total k)
      by (Some f) e = e ∙ ap Some (good k f e).is

  complete : (es : Told) (finds : Finds) (d : Node × Value) (k : Key) → ((e : Node × Value) → IsElement e es → IsElement e nodes) → AreGood finds → IsElement d es → row_key classes d.0 ≡ Some k
      → find key_cmp k (with_nodes classes nodes finds es) ≡ Some (found_at classes nodes k)
  complete [] finds d k within good is key = absurd is
  complete (e ∷ es) finds d k within good (inl same) key =
      let here : row_key classes e.0 ≡ Some k = ap (λ (p : Node × Value). row_key classes p.0) (sym same) ∙ key in
      kept es (with_key classes nodes finds (row_key classes e.0)) k (found_at classes nodes k) (ap (λ o. find key_cmp k (with_key classes nodes finds o)) here ∙ new_key finds k good)
  complete (e ∷ es) finds d k within good (inr more) key =
      complete es (with_key classes nodes finds (row_key classes e.0)) d k (λ p h. within p (inr h)) (good_key finds e (row_key classes e.0) (within e (inl refl)) refl good) more key

  pub finds_complete : (d : Node × Value) (k : Key) → IsElement d nodes → row_key classes d.0 ≡ Some k → find key_cmp k (with_nodes classes nodes [] nodes) ≡ Some (found_at classes nodes k)
  finds_complete d k is key = complete nodes [] d k (λ e h. h) none_good is key

  key_rises : (finds : Finds) (o : Option Key) → IsTrue (is_sorted key_cmp finds) → IsTrue (is_sorted key_cmp (with_key classes nodes finds o))
  key_rises finds None h = h
  key_rises finds (Some j) h = by (is_some (find key_cmp j finds))
    where
      by : (b : Bool) → IsTrue (is_sorted key_cmp (cond b finds (insert_entry key_cmp finds j (found_at classes nodes j))))
      by true = h
      by false =
          ap (is_sorted key_cmp) (put_same key_cmp finds j (found_at classes nodes j)) ∙ stays (is_sorted key_cmp (put key_cmp j (found_at classes nodes j) finds)) (is_sorted-put key_cmp key_total j (found_at classes nodes j) finds (truth (is_sorted key_cmp finds) h))

  all_rise : (es : Told) (finds : Finds) → IsTrue (is_sorted key_cmp finds) → IsTrue (is_sorted key_cmp (with_nodes classes nodes finds es))
  all_rise [] finds h = h
  all_rise (e ∷ es) finds h = all_rise es (with_key classes nodes finds (row_key classes e.0)) (key_rises finds (row_key classes e.0) h)

  pub finds_rise : IsTrue (is_sorted key_cmp (with_nodes classes nodes [] nodes))
  finds_rise = all_rise nodes [] refl
