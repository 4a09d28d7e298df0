-- What the places of a tree are seen as, and what an edit of them makes of it.
use Rattle.std.proofs.Common.{◌≡◌, ℕ, ◌+◌, ◌-◌, ◌<◌, length, ◌==◌, Bool, true, false, cond, List, [], Option, Some, None, is_none, option_and_then, unwrap_or, refl, sym, ap, ◌∙◌, arith, IsTrue, get_or, set}
use Rattle.std.specs.Ordering.{eq_by_cmp}
use Rattle.std.proofs.lemmas.Cmp.{tied_itself}
use Rattle.std.proofs.lemmas.List.{get_or_default}
use Rattle.std.specs.FinMap.{FinMap, same_map, find, put, is_sorted, from_sorted, get, empty, entries}
use Rattle.std.specs.FinMap as map
use Rattle.obj_kinds.specs.declared.node.Node.{Node}
use Rattle.obj_kinds.specs.declared.value.Value.{Value}
use Rattle.obj_kinds.specs.Order.{node_cmp}
use Rattle.obj_kinds.proofs.OrderLemmas.{node_total, node_exact}
use Rattle.global_tree.specs.declared.place.Place.{Place}
use Rattle.global_tree.specs.Maps.{placed}
use Rattle.global_tree.specs.Contents.{Contents, Globals, Pins, pins_of, counted, pinned, unpinned}
use Rattle.global_tree.specs.Places.{contents, value_in, pins_in, part}
use Rattle.obj_kinds.specs.Search.{IsHit, IsGap}
use Rattle.global_tree.proofs.MapLaws.{get-placed, one_key}
use Rattle.global_tree.proofs.Parts.{get-part, part-put, sorted-part, part-remove}
use Rattle.std.specs.List.{insert, remove}
use Rattle.obj_kinds.proofs.Sorted.{find_hit, find_gap, Edit, hit_edit, gap_edit, from_sorted-nil, entries_sorted_list}

abbrev pub Places : Type 0
Places = List (Node × Place)

abbrev pub IsRising : Places → Type 0
IsRising es = IsTrue (is_sorted node_cmp es)

abbrev pub pins_or : Option Place → ℕ
pins_or None = 0
pins_or (Some p) = p.pins

count_back : (n : ℕ) (b : Bool) → (n == 0) ≡ b → unwrap_or (cond b None (Some n)) 0 ≡ n
count_back n true e = grind arith
count_back n false e = refl

pub counted_back : (n : ℕ) → unwrap_or (counted n) 0 ≡ n
unfolding counted
counted_back n = count_back n (n == 0) refl

count_of : (p : Option Place) → unwrap_or (option_and_then pins_in p) 0 ≡ pins_or p
count_of None = refl
count_of (Some p) = counted_back p.pins

pub value_at : (es : Places) → IsRising es → (q : Node) → get (contents es).globals q ≡ option_and_then value_in (find node_cmp q es)
unfolding contents
value_at es h q = get-part node_cmp node_total node_exact value_in es h q

count_at : (es : Places) → IsRising es → (q : Node) → get (contents es).pins q ≡ option_and_then pins_in (find node_cmp q es)
unfolding contents
count_at es h q = get-part node_cmp node_total node_exact pins_in es h q

pub pins_at : (es : Places) → IsRising es → (q : Node) → pins_of (contents es).pins q ≡ pins_or (find node_cmp q es)
unfolding contents pins_of
pins_at es h q = ap (λ n. unwrap_or n 0) (get-part node_cmp node_total node_exact pins_in es h q) ∙ count_of (find node_cmp q es)

pub globals-put : (es : Places) → IsRising es → (k : Node) (p : Place) → (contents (put node_cmp k p es)).globals ≡ placed (contents es).globals k p.value
unfolding contents
globals-put es h k p = part-put node_cmp node_total node_exact value_in es h k p

pub pins-put : (es : Places) → IsRising es → (k : Node) (p : Place) → (contents (put node_cmp k p es)).pins ≡ placed (contents es).pins k (counted p.pins)
unfolding contents
pins-put es h k p = part-put node_cmp node_total node_exact pins_in es h k p

-- the places in rising order, and the contents that they are seen as
pub record IsSeen (es : Places) (t : Contents) : Type 0 where
  pub rising : IsRising es
  pub as_is : contents es ≡ t

-- what is known once the tree t has become the places fs, by the place p at the node k
pub record Changed (t : Contents) (fs : Places) (k : Node) (p : Place) : Type 0 where
  pub rising : IsRising fs
  pub globals : (contents fs).globals ≡ placed t.globals k p.value
  pub pins : (contents fs).pins ≡ placed t.pins k (counted p.pins)

-- what stands at the node k, of which a search found the place
pub record Found (t : Contents) (k : Node) (p : Option Place) : Type 0 where
  pub value : get t.globals k ≡ option_and_then value_in p
  pub count : get t.pins k ≡ option_and_then pins_in p
  pub pins : pins_of t.pins k ≡ pins_or p

found_by : (es : Places) (t : Contents) (k : Node) (p : Option Place) → IsSeen es t → find node_cmp k es ≡ p → Found t k p
found_by es t k p seen is = record {
  value = ap (λ u. get u.globals k) (sym seen.as_is) ∙ value_at es seen.rising k ∙ ap (option_and_then value_in) is;
  count = ap (λ u. get u.pins k) (sym seen.as_is) ∙ count_at es seen.rising k ∙ ap (option_and_then pins_in) is;
  pins = ap (λ u. pins_of u.pins k) (sym seen.as_is) ∙ pins_at es seen.rising k ∙ ap pins_or is;
}

by_edit : (es fs : Places) (t : Contents) (k : Node) (p : Place) → IsSeen es t → Edit node_cmp es fs k p → Changed t fs k p
by_edit es fs t k p seen edit = record {
  rising = edit.sorted;
  globals = ap (λ l. (contents l).globals) edit.put ∙ globals-put es seen.rising k p ∙ ap (λ u. placed u.globals k p.value) seen.as_is;
  pins = ap (λ l. (contents l).pins) edit.put ∙ pins-put es seen.rising k p ∙ ap (λ u. placed u.pins k (counted p.pins)) seen.as_is;
}

-- e is the pair at a place that was found
pub found_at : (es : Places) (t : Contents) (k : Node) (i : ℕ) (e : Node × Place) → IsSeen es t → IsHit node_cmp es k i → e ≡ get_or es i e → Found t k (Some e.1)
found_at es t k i e seen hit is = found_by es t k (Some e.1) seen (find_hit node_cmp node_total es k i e seen.rising hit ∙ ap (λ (x : Node × Place). Some x.1) (sym is))

pub absent_at : (es : Places) (t : Contents) (k : Node) (i : ℕ) → IsSeen es t → IsGap node_cmp es k i → Found t k None
absent_at es t k i seen gap = found_by es t k None seen (find_gap node_cmp node_total es k i gap)

pub changed_at : (es : Places) (t : Contents) (k : Node) (i : ℕ) (e : Node × Place) (p : Place) → IsSeen es t → IsHit node_cmp es k i → e ≡ get_or es i e → Changed t (set es i (e.0, p)) k p
changed_at es t k i e p seen hit is = by_edit es (set es i (e.0, p)) t k p seen (hit_edit node_cmp node_total es k p i e seen.rising hit is)

pub added_at : (es : Places) (t : Contents) (k : Node) (i : ℕ) (p : Place) → IsSeen es t → IsGap node_cmp es k i → Changed t (insert es i (k, p)) k p
added_at es t k i p seen gap = by_edit es (insert es i (k, p)) t k p seen (gap_edit node_cmp node_total es k p i seen.rising gap)

pub nothing : (es : Places) → es ≡ [] → ((contents es).globals ≡ empty) × ((contents es).pins ≡ empty)
unfolding contents
nothing es e = (ap (λ l. from_sorted (part value_in l)) e ∙ from_sorted-nil node_cmp Value, ap (λ l. from_sorted (part pins_in l)) e ∙ from_sorted-nil node_cmp ℕ)

entries_of : (es : Places) → IsRising es → entries (contents es).globals ≡ part value_in es
unfolding contents
entries_of es h = entries_sorted_list node_cmp node_total (part value_in es) (sorted-part node_cmp node_total node_exact value_in es h)

pub entries_seen : (es : Places) (t : Contents) → IsSeen es t → entries t.globals ≡ part value_in es
entries_seen es t seen = ap (λ u. entries u.globals) (sym seen.as_is) ∙ entries_of es seen.rising

-- ---- in the contracts' words

pub one_value : (g : Globals) (k : Node) (v : Option Value) (w : Value) → v ≡ Some w → placed g k v ≡ map.insert g k w
unfolding placed
one_value g k v w e = ap (placed g k) e

one_more : (n : ℕ) → counted (n + 1) ≡ Some (n + 1)
unfolding counted
one_more n = grind arith

pub one_pin : (pins : Pins) (k : Node) (n : ℕ) → pins_of pins k ≡ n → placed pins k (counted (n + 1)) ≡ pinned pins k
unfolding pinned
one_pin pins k n e = ap (placed pins k) (one_more n ∙ ap (λ m. Some (m + 1)) (sym e))

pub one_unpin : (pins : Pins) (k : Node) (n : ℕ) → pins_of pins k ≡ n → placed pins k (counted (n - 1)) ≡ unpinned pins k
unfolding unpinned
one_unpin pins k n e = ap (λ m. placed pins k (counted (m - 1))) (sym e)

-- what a map has already changes nothing
pub placed_same : {X : Type 0} (m : FinMap node_cmp X) (k : Node) (v : Option X) → get m k ≡ v → placed m k v ≡ m
placed_same m k v e = same_map node_total node_exact _ _ (λ q. get-placed node_total m k v q ∙ at q (eq_by_cmp node_cmp q k) refl)
  where
    at : (q : Node) (b : Bool) → eq_by_cmp node_cmp q k ≡ b → cond b v (get m q) ≡ get m q
    at q true g = sym (ap (get m) (one_key node_exact q k g) ∙ e)
    at q false g = refl

-- a place without a value and without pins may go
pub without : (es : Places) (i : ℕ) (d : Node × Place) → i < length es → (get_or es i d).1.value ≡ None → (get_or es i d).1.pins ≡ 0 → contents (remove es i) ≡ contents es
unfolding contents counted
without es i d lt none zero_ =
    λ j. record {
      globals = from_sorted (part-remove node_cmp node_total node_exact value_in es i d lt none j);
      pins = from_sorted (part-remove node_cmp node_total node_exact pins_in es i d lt (ap counted zero_) j);
    }

-- a place that isn't there has no pin
pub not_absent : (t : Contents) (k : Node) → Found t k None → 0 < pins_of t.pins k → ⊥
not_absent t k found lt = omega (arith, found.pins)

pub no_value : (v : Option Value) → is_none v ≡ true → v ≡ None
no_value None h = refl
no_value (Some v) h = cc

-- what each place of a tree says of its node
pub found_in : (es : Places) (t : Contents) (i : ℕ) (d : Node × Place) → IsSeen es t → i < length es → let e = get_or es i d in Found t e.0 (Some e.1)
found_in es t i d seen lt = found_by es t (get_or es i d).0 (Some (get_or es i d).1) seen (find_hit node_cmp node_total es (get_or es i d).0 i d seen.rising (record { in_range = lt; ties = λ e. ap (λ (x : Node × Place). node_cmp x.0 (get_or es i d).0) (get_or_default es i e d lt) ∙ tied_itself node_total (get_or es i d).0 }))
