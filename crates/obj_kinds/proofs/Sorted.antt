-- What an edit at a place of a sorted list of pairs does.
use Rattle.std.proofs.Common.{◌≡◌, ℕ, zero, suc, ◌<◌, ◌≤◌, Bool, true, false, cond, ◌&&◌, List, [], ◌∷◌, length, get_or, set, Some, None, Result, Ok, Err, IfOk, IfErr, refl, sym, ap, subst, ◌∙◌, arith, IsTrue}
use Rattle.std.specs.declared.cmp.Ordering.{Ordering}
use Rattle.std.specs.declared.cmp.Ordering.TheVariants.{Less, Equal, Greater}
use Rattle.std.specs.Ordering.{ordering_reverse, ordering_index, is_lt, is_eq}
use Rattle.std.specs.Cmp.{IsTotalOrder}
use Rattle.std.proofs.lemmas.Cmp.{alike_right}
use Rattle.std.specs.List.{insert}
use Rattle.std.specs.List.Sorted.{IsNonDecreasingBy, IsBinarySearchResult, IsSearchInRange}
use Rattle.std.specs.FinMap.{find, put, is_sorted, from_sorted, empty, entries-from_sorted, entries-insert, get-from_sorted, same_entries_map, empty_of_len}
use Rattle.std.specs.FinMap as map
use Rattle.std.specs.FinMap.Entries.{below_all, by_order, is_sorted-put}
use Rattle.std.specs.Prelude.{T}
use Rattle.obj_kinds.specs.Search.{IsHit, IsGap}

-- what is known once the pairs es have become fs, for the value v at the key k
pub record Edit {K X : Type 0} (R : K → K → Ordering) (es fs : List (K × X)) (k : K) (v : X) : Type 0 where
  pub sorted : IsTrue (is_sorted R fs)
  pub put : fs ≡ put R k v es
  pub made : from_sorted {R = R} fs ≡ map.insert (from_sorted es) k v

pub less : (o : Ordering) → IsTrue (is_lt o) → o ≡ Less
less Less h = refl
less Equal h = cc
less Greater h = cc

pub first : (a b : Bool) → IsTrue (a && b) → IsTrue a
first true b h = refl
first false b h = cc

pub second : (a b : Bool) → IsTrue (a && b) → IsTrue b
second true b h = h
second false b h = cc

pub both : (a b : Bool) → IsTrue a → IsTrue b → IsTrue (a && b)
both true b h k = k
both false b h k = cc

pub truth : (b : Bool) → IsTrue b → T b
truth b e = subst T (sym e) tt

pub stays : (b : Bool) → T b → IsTrue b
stays true h = refl
stays false h = absurd h

module _ {K : Type 0} (R : K → K → Ordering) (o : IsTotalOrder R) where
  pub turned : (x y : K) (r : Ordering) → R x y ≡ r → R y x ≡ ordering_reverse r
  turned x y r e = o.antisymm y x ∙ ap ordering_reverse e

  -- the comparisons of a smaller and of a greater key with k
  rises : (x y k : K) → R x y ≡ Less → (r : Ordering) → R y k ≡ r → ordering_index (R x k) ≤ ordering_index r
  rises x y k h Less e = rw (o.trans x y k h e) (omega arith)
  rises x y k h Equal e = rw (sym (alike_right o y k x e) ∙ h) (omega arith)
  rises x y k h Greater e = index-le (R x k)
    where
      index-le : (r : Ordering) → ordering_index r ≤ 2
      index-le Less = omega arith
      index-le Equal = omega arith
      index-le Greater = omega arith

module _ {K X : Type 0} (R : K → K → Ordering) (o : IsTotalOrder R) where
  -- a key below all of a list is below each
  pub below_each : (x : K) (es : List (K × X)) → IsTrue (below_all R x es) → (j : ℕ) (d : K × X) → j < length es → R x (get_or es j d).0 ≡ Less
  below_each x [] h j d lt = absurd (omega arith)
  below_each x (e ∷ es) h zero d lt = less _ (first _ _ h)
  below_each x (e ∷ es) h (suc j) d lt = below_each x es (second _ _ h) j d (omega arith)

  -- so a binary search may be used
  pub comparisons_rise : (es : List (K × X)) → IsTrue (is_sorted R es) → (k : K) → IsNonDecreasingBy (λ e. ordering_index (R e.0 k)) es
  comparisons_rise [] h k i j d le lt = absurd (omega arith)
  comparisons_rise (e ∷ es) h k zero zero d le lt = omega arith
  comparisons_rise (e ∷ es) h k zero (suc j) d le lt = rises R o e.0 (get_or es j d).0 k (below_each e.0 es (first _ _ h) j d (omega arith)) _ refl
  comparisons_rise (e ∷ es) h k (suc i) zero d le lt = absurd (omega arith)
  comparisons_rise (e ∷ es) h k (suc i) (suc j) d le lt = comparisons_rise es (second _ _ h) k i j d (omega arith) (omega arith)

  -- what a binary search finds
  pub searched : (es : List (K × X)) → IsTrue (is_sorted R es) → (k : K) → (r : Result ℕ ℕ) → IsSearchInRange r (length es) → IsBinarySearchResult (λ e. R e.0 k) es r → record { found : IfOk r (IsHit R es k); absent : IfErr r (IsGap R es k) }
  searched es h k (Ok i) in_range equal = record { found = record { in_range = in_range; ties = equal }; absent = tt }
  searched es h k (Err i) in_range parted =
      let parts = parted (comparisons_rise es h k) in
      record { found = tt; absent = record { in_range = in_range; smaller_before = λ j d lt. parts.0 j d (omega arith) lt; greater_after = λ j d le lt. parts.1 j d le lt } }

  -- the gap in the tail
  gap_tail : (e : K × X) (es : List (K × X)) (k : K) (i : ℕ) → IsGap R (e ∷ es) k (suc i) → IsGap R es k i
  gap_tail e es k i gap = record {
    in_range = omega (arith, gap.in_range);
    smaller_before = λ j d lt. gap.smaller_before (suc j) d (omega arith);
    greater_after = λ j d le lt. gap.greater_after (suc j) d (omega arith) (omega arith);
  }

  pub hit_tail : (e : K × X) (es : List (K × X)) (k : K) (i : ℕ) → IsHit R (e ∷ es) k (suc i) → IsHit R es k i
  hit_tail e es k i hit = record { in_range = omega (arith, hit.in_range); ties = hit.ties }

  -- a new pair in the gap
  pub put_gap : (es : List (K × X)) (k : K) (v : X) (i : ℕ) → IsGap R es k i → put R k v es ≡ insert es i (k, v)
  put_gap [] k v zero gap = refl
  put_gap [] k v (suc i) gap = absurd (omega (arith, gap.in_range))
  put_gap (e ∷ es) k v zero gap = ap (λ r. by_order r ((k, v) ∷ e ∷ es) ((e.0, v) ∷ es) (e ∷ put R k v es)) (turned R o e.0 k Greater (gap.greater_after 0 e (omega arith) (omega arith)))
  put_gap (e ∷ es) k v (suc i) gap =
      ap (λ r. by_order r ((k, v) ∷ e ∷ es) ((e.0, v) ∷ es) (e ∷ put R k v es)) (turned R o e.0 k Less (gap.smaller_before 0 e (omega arith)))
      ∙ ap (λ l. e ∷ l) (put_gap es k v i (gap_tail e es k i gap))

  pub find_gap : (es : List (K × X)) (k : K) (i : ℕ) → IsGap R es k i → find R k es ≡ None
  find_gap [] k i gap = refl
  find_gap (e ∷ es) k zero gap =
      ap (λ r. cond (is_eq r) (Some e.1) (find R k es)) (turned R o e.0 k Greater (gap.greater_after 0 e (omega arith) (omega arith)))
      ∙ find_gap es k zero (record { in_range = omega arith; smaller_before = λ j d lt. absurd (omega arith); greater_after = λ j d le lt. gap.greater_after (suc j) d (omega arith) (omega arith) })
  find_gap (e ∷ es) k (suc i) gap =
      ap (λ r. cond (is_eq r) (Some e.1) (find R k es)) (turned R o e.0 k Less (gap.smaller_before 0 e (omega arith)))
      ∙ find_gap es k i (gap_tail e es k i gap)

  -- a key before the place of k is smaller
  pub before_hit : (e : K × X) (es : List (K × X)) (k : K) (i : ℕ) → IsTrue (is_sorted R (e ∷ es)) → IsHit R (e ∷ es) k (suc i) → R k e.0 ≡ Greater
  before_hit e es k i h hit =
      let lt : i < length es = omega (arith, hit.in_range) in
      turned R o e.0 k Less (sym (alike_right o (get_or es i e).0 k e.0 (hit.ties e)) ∙ below_each e.0 es (first _ _ h) i e lt)

  pub find_hit : (es : List (K × X)) (k : K) (i : ℕ) (d : K × X) → IsTrue (is_sorted R es) → IsHit R es k i → find R k es ≡ Some (get_or es i d).1
  find_hit [] k i d h hit = absurd (omega (arith, hit.in_range))
  find_hit (e ∷ es) k zero d h hit = ap (λ r. cond (is_eq r) (Some e.1) (find R k es)) (turned R o e.0 k Equal (hit.ties d))
  find_hit (e ∷ es) k (suc i) d h hit =
      ap (λ r. cond (is_eq r) (Some e.1) (find R k es)) (before_hit e es k i h hit)
      ∙ find_hit es k i d (second _ _ h) (hit_tail e es k i hit)

  -- a new value at the place of k
  pub put_hit : (es : List (K × X)) (k : K) (v : X) (i : ℕ) (d : K × X) → IsTrue (is_sorted R es) → IsHit R es k i → put R k v es ≡ set es i ((get_or es i d).0, v)
  put_hit [] k v i d h hit = absurd (omega (arith, hit.in_range))
  put_hit (e ∷ es) k v zero d h hit = ap (λ r. by_order r ((k, v) ∷ e ∷ es) ((e.0, v) ∷ es) (e ∷ put R k v es)) (turned R o e.0 k Equal (hit.ties d))
  put_hit (e ∷ es) k v (suc i) d h hit =
      ap (λ r. by_order r ((k, v) ∷ e ∷ es) ((e.0, v) ∷ es) (e ∷ put R k v es)) (before_hit e es k i h hit)
      ∙ ap (λ l. e ∷ l) (put_hit es k v i d (second _ _ h) (hit_tail e es k i hit))

  pub sorted_put : (es : List (K × X)) (k : K) (v : X) → IsTrue (is_sorted R es) → IsTrue (is_sorted R (put R k v es))
  sorted_put es k v h = stays _ (is_sorted-put R o k v es (truth _ h))

  -- ---- the same of the map that the list makes
  pub from_sorted-put : (es : List (K × X)) (k : K) (v : X) → IsTrue (is_sorted R es) → from_sorted {R = R} (put R k v es) ≡ map.insert (from_sorted es) k v
  from_sorted-put es k v h =
      same_entries_map _ _ (entries-from_sorted R _ (truth _ (sorted_put es k v h)) ∙ sym (entries-insert o (from_sorted es) k v ∙ ap (put R k v) (entries-from_sorted R es (truth _ h))))

  pub get_sorted : (es : List (K × X)) (k : K) → IsTrue (is_sorted R es) → map.get (from_sorted {R = R} es) k ≡ find R k es
  get_sorted es k h = get-from_sorted R es k (truth _ h)

  pub entries_sorted_list : (es : List (K × X)) → IsTrue (is_sorted R es) → map.entries (from_sorted {R = R} es) ≡ es
  entries_sorted_list es h = entries-from_sorted R es (truth _ h)

  -- ---- what an edit makes, in one record
  pub gap_edit : (es : List (K × X)) (k : K) (v : X) (i : ℕ) → IsTrue (is_sorted R es) → IsGap R es k i → Edit R es (insert es i (k, v)) k v
  gap_edit es k v i h gap =
      let e = put_gap es k v i gap in
      record { sorted = subst (λ l. IsTrue (is_sorted R l)) e (sorted_put es k v h); put = sym e; made = ap from_sorted (sym e) ∙ from_sorted-put es k v h }

  pub hit_edit : (es : List (K × X)) (k : K) (v : X) (i : ℕ) (e : K × X) → IsTrue (is_sorted R es) → IsHit R es k i → e ≡ get_or es i e → Edit R es (set es i (e.0, v)) k v
  hit_edit es k v i e h hit is =
      let e = put_hit es k v i e h hit ∙ ap (λ (p : K × X). set es i (p.0, v)) (sym is) in
      record { sorted = subst (λ l. IsTrue (is_sorted R l)) e (sorted_put es k v h); put = sym e; made = ap from_sorted (sym e) ∙ from_sorted-put es k v h }

pub from_sorted-nil : {K : Type 0} (R : K → K → Ordering) (X : Type 0) → from_sorted {X = X} {R = R} [] ≡ empty
from_sorted-nil R X = empty_of_len _ (map.len-entries (from_sorted {X = X} {R = R} []) ∙ ap length (entries-from_sorted R [] tt))
