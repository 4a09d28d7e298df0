-- The places of a node and its descendants stand together, and what emptying them makes of the tree.
use Rattle.std.proofs.Common.{◌≡◌, ℕ, zero, suc, ◌+◌, ◌-◌, ◌<◌, ◌≤◌, Bool, true, false, not, cond, ◌&&◌, List, [], ◌∷◌, length, get_or, set, take, drop, map, filter, Option, Some, None, is_some, OnSome, ◌^◌, option_map, option_and_then, refl, sym, ap, ◌∙◌, subst, arith}
use Rattle.std.specs.declared.cmp.Ordering.{Ordering}
use Rattle.std.specs.declared.cmp.Ordering.TheVariants.{Less, Equal, Greater}
use Rattle.std.specs.Ordering.{is_lt, eq_by_cmp, ordering_reverse}
use Rattle.std.specs.List.Sorted.{IsPartitionedBy}
use Rattle.std.specs.FinMap.{find, is_sorted, get, entries, contains_key, retain_keys, same_map}
use Rattle.std.specs.FinMap.Entries.{below_all}
use Rattle.obj_kinds.specs.declared.node.Node.{Node}
use Rattle.obj_kinds.specs.declared.value.Value.{Value}
use Rattle.obj_kinds.specs.Order.{node_cmp, covers}
use Rattle.obj_kinds.proofs.OrderLemmas.{node_total, node_exact}
use Rattle.global_tree.specs.declared.place.Place.{Place}
use Rattle.global_tree.specs.Contents.{Contents, pins_of, taken_at}
use Rattle.global_tree.specs.Places.{contents, part, part_by, value_in, emptied}
use Rattle.global_tree.specs.Run.{is_past, IsRun, empty_one, emptied_in}
use Rattle.global_tree.proofs.MapLaws.{one_key, get-kept}
use Rattle.global_tree.proofs.Parts.{first, second}
use Rattle.global_tree.proofs.Seen.{Found, found_in, Places, IsRising, IsSeen, value_at, pins_at, pins_or, entries_seen}
use Rattle.global_tree.proofs.StepLaws.{lesser, covers_itself, before_apart, covers_run}
use Rattle.global_tree.proofs.Parted.{parted_by}

-- ---- where the run begins and ends

pub parted_start : (n : Node) (es : Places) → IsRising es → IsPartitionedBy (λ e. is_lt (node_cmp e.0 n)) es
parted_start n es h = parted_by (λ m. is_lt (node_cmp m n)) (λ a b lt p. ap is_lt (node_total.trans a b n lt (lesser _ p))) es h

past_rises : (n a b : Node) → node_cmp a b ≡ Less → is_past n a ≡ true → is_past n b ≡ true
unfolding is_past
past_rises n a b lt h = by (covers n b) refl
  where
    after : node_cmp n a ≡ Less
    after = lesser (node_cmp n a) (first (is_lt (node_cmp n a)) (not (covers n a)) h)

    apart : not (covers n a) ≡ true
    apart = second (is_lt (node_cmp n a)) (not (covers n a)) h

    by : (q : Bool) → covers n b ≡ q → (is_lt (node_cmp n b) && not q) ≡ true
    by true g = let is = covers_run n a b after lt g in let apart' : not (covers n a) ≡ true = apart in let joined : not (covers n a) ≡ false = ap not is in cc
    by false g = ap (λ r. is_lt r && true) (node_total.trans n a b after lt)

pub parted_end : (n : Node) (es : Places) → IsRising es → IsPartitionedBy (λ e. not (is_past n e.0)) es
parted_end n es h = parted_by (λ m. not (is_past n m)) (λ a b lt p. rises a b lt p) es h
  where
    rises : (a b : Node) → node_cmp a b ≡ Less → not (is_past n b) ≡ true → not (is_past n a) ≡ true
    rises a b lt p = by (is_past n a) refl
      where
        by : (q : Bool) → is_past n a ≡ q → not q ≡ true
        by true g = let is = past_rises n a b lt g in cc
        by false g = refl

past_apart : (n m : Node) → not (is_past n m) ≡ false → covers n m ≡ false
unfolding is_past
past_apart n m h = by (is_lt (node_cmp n m)) (covers n m) h
  where
    by : (p q : Bool) → not (p && not q) ≡ false → q ≡ false
    by true true k = cc
    by true false k = refl
    by false q k = cc

in_run : (n m : Node) → is_lt (node_cmp m n) ≡ false → not (is_past n m) ≡ true → covers n m ≡ true
unfolding is_past
in_run n m from upto = by (node_cmp n m) refl
  where
    after : (q : Bool) → covers n m ≡ q → node_cmp n m ≡ Less → q ≡ true
    after true g e = refl
    after false g e = let h : not (is_lt Less && not false) ≡ true = ap (λ r. not (is_lt r && not false)) (sym e) ∙ ap (λ q. not (is_lt (node_cmp n m) && not q)) (sym g) ∙ upto in cc

    by : (r : Ordering) → node_cmp n m ≡ r → covers n m ≡ true
    by Less e = after (covers n m) refl e
    by Equal e = ap (covers n) (sym (node_exact n m e)) ∙ covers_itself n
    by Greater e = let turned : is_lt (node_cmp m n) ≡ true = ap is_lt (node_total.antisymm m n ∙ ap ordering_reverse e) in cc

not_both : (n m : Node) → is_lt (node_cmp m n) ≡ true → not (is_past n m) ≡ false → ⊥
unfolding is_past
not_both n m before past =
    let r : node_cmp n m ≡ Greater = node_total.antisymm n m ∙ ap ordering_reverse (lesser _ before) in
    let h : not (is_lt Greater && not (covers n m)) ≡ false = ap (λ x. not (is_lt x && not (covers n m))) (sym r) ∙ past in
    cc

turned : (i j : ℕ) → (j < i → 1 ≤ 0) → i ≤ j
turned i j never = grind (arith, never)

begins_first : (es : Places) (n : Node) (i j : ℕ) → i ≤ length es
    → ((k : ℕ) (d : Node × Place) → 0 ≤ k → k < i → is_lt (node_cmp (get_or es k d).0 n) ≡ true)
    → ((k : ℕ) (d : Node × Place) → j ≤ k → k < length es → not (is_past n (get_or es k d).0) ≡ false)
    → i ≤ j
begins_first [] n i j li before past = omega arith
begins_first (x ∷ es) n i j li before past =
    let never : j < i → 1 ≤ 0 = λ lt. absurd (not_both n (get_or (x ∷ es) j x).0 (before j x (omega arith) lt) (past j x (omega arith) (omega arith))) in
    turned i j never

pub run_between : (es : Places) (n : Node) (i j : ℕ) → i ≤ length es → j ≤ length es
    → ((k : ℕ) (d : Node × Place) → 0 ≤ k → k < i → is_lt (node_cmp (get_or es k d).0 n) ≡ true)
    → ((k : ℕ) (d : Node × Place) → i ≤ k → k < length es → is_lt (node_cmp (get_or es k d).0 n) ≡ false)
    → ((k : ℕ) (d : Node × Place) → 0 ≤ k → k < j → not (is_past n (get_or es k d).0) ≡ true)
    → ((k : ℕ) (d : Node × Place) → j ≤ k → k < length es → not (is_past n (get_or es k d).0) ≡ false)
    → IsRun es n i j
run_between es n i j li lj before from upto past = record {
  order = begins_first es n i j li before past;
  within = lj;
  before = λ k d lt. before_apart n (get_or es k d).0 (lesser _ (before k d (omega arith) lt));
  inside = λ k d le lt. in_run n (get_or es k d).0 (from k d le (omega arith)) (upto k d (omega arith) lt);
  behind = λ k d le lt. past_apart n (get_or es k d).0 (past k d le lt);
}

-- ---- what emptying does

pub emptied_get : (es : Places) (i m j : ℕ) (d : Node × Place) → j ≡ i + m → get_or (emptied_in i m es) j d ≡ get_or es j d
emptied_get es zero zero j d e = refl
emptied_get [] zero (suc m) j d e = refl
emptied_get (x ∷ es) zero (suc m) zero d e = absurd (omega arith)
emptied_get (x ∷ es) zero (suc m) (suc j) d e = emptied_get es zero m j d (omega arith)
emptied_get [] (suc i) m j d e = refl
emptied_get (x ∷ es) (suc i) m zero d e = absurd (omega arith)
emptied_get (x ∷ es) (suc i) m (suc j) d e = emptied_get es i m j d (omega arith)

-- one place more
pub emptied_more : (es : Places) (i m j : ℕ) (d : Node × Place) → j ≡ i + m → j < length es → set (emptied_in i m es) j (empty_one (get_or es j d)) ≡ emptied_in i (suc m) es
emptied_more [] i m j d e lt = absurd (omega arith)
emptied_more (x ∷ es) zero zero zero d e lt = refl
emptied_more (x ∷ es) zero zero (suc j) d e lt = absurd (omega arith)
emptied_more (x ∷ es) zero (suc m) zero d e lt = absurd (omega arith)
emptied_more (x ∷ es) zero (suc m) (suc j) d e lt = ap (λ l. empty_one x ∷ l) (emptied_more es zero m j d (omega arith) (omega arith))
emptied_more (x ∷ es) (suc i) m zero d e lt = absurd (omega arith)
emptied_more (x ∷ es) (suc i) m (suc j) d e lt = ap (λ l. x ∷ l) (emptied_more es i m j d (omega arith) (omega arith))

abbrev empty_under : Node → Node × Place → Node × Place
empty_under n e = (e.0, cond (covers n e.0) (emptied e.1) e.1)

-- the run, counted from its start
pub record Run (es : Places) (n : Node) (i m : ℕ) : Type 0 where
  pub before : (k : ℕ) (d : Node × Place) → k < i → covers n (get_or es k d).0 ≡ false
  pub inside : (k : ℕ) (d : Node × Place) → i ≤ k → k < i + m → covers n (get_or es k d).0 ≡ true
  pub behind : (k : ℕ) (d : Node × Place) → i + m ≤ k → k < length es → covers n (get_or es k d).0 ≡ false

pub run_of : (es : Places) (n : Node) (i j : ℕ) → IsRun es n i j → Run es n i (j - i)
run_of es n i j run = record {
  before = λ k d lt. run.before k d lt;
  inside = λ k d le lt. run.inside k d le (omega (arith, run.order));
  behind = λ k d le lt. run.behind k d (omega (arith, run.order)) lt;
}

tail_start : (x : Node × Place) (es : Places) (n : Node) (m : ℕ) → Run (x ∷ es) n 0 (suc m) → Run es n 0 m
tail_start x es n m run = record {
  before = λ k d lt. absurd (omega arith);
  inside = λ k d le lt. run.inside (suc k) d (omega arith) (omega arith);
  behind = λ k d le lt. run.behind (suc k) d (omega arith) (omega arith);
}

tail_before : (x : Node × Place) (es : Places) (n : Node) (i m : ℕ) → Run (x ∷ es) n (suc i) m → Run es n i m
tail_before x es n i m run = record {
  before = λ k d lt. run.before (suc k) d (omega arith);
  inside = λ k d le lt. run.inside (suc k) d (omega arith) (omega arith);
  behind = λ k d le lt. run.behind (suc k) d (omega arith) (omega arith);
}

tail_behind : (x : Node × Place) (es : Places) (n : Node) → Run (x ∷ es) n 0 0 → Run es n 0 0
tail_behind x es n run = record {
  before = λ k d lt. absurd (omega arith);
  inside = λ k d le lt. absurd (omega arith);
  behind = λ k d le lt. run.behind (suc k) d (omega arith) (omega arith);
}

one : (n : Node) (x : Node × Place) (b : Bool) → covers n x.0 ≡ b → empty_under n x ≡ cond b (empty_one x) x
one n x true g = ap (λ b. (x.0, cond b (emptied x.1) x.1)) g
one n x false g = ap (λ b. (x.0, cond b (emptied x.1) x.1)) g

-- emptied are those of the node and its descendants
pub emptied_is : (es : Places) (n : Node) (i m : ℕ) → Run es n i m → emptied_in i m es ≡ map (empty_under n) es
emptied_is [] n zero zero run = refl
emptied_is [] n zero (suc m) run = refl
emptied_is [] n (suc i) m run = refl
emptied_is (x ∷ es) n zero zero run = λ j. sym (one n x false (run.behind 0 x (omega arith) (omega arith))) j ∷ emptied_is es n zero zero (tail_behind x es n run) j
emptied_is (x ∷ es) n zero (suc m) run = λ j. sym (one n x true (run.inside 0 x (omega arith) (omega arith))) j ∷ emptied_is es n zero m (tail_start x es n m run) j
emptied_is (x ∷ es) n (suc i) m run = λ j. sym (one n x false (run.before 0 x (omega arith))) j ∷ emptied_is es n i m (tail_before x es n i m run) j

abbrev under : {X : Type 0} → Node → Node × X → Bool
under n e = covers n e.0

filter_part : (n : Node) (k : Node) (v : Option Value) (rest : List (Node × Value)) (b : Bool) → covers n k ≡ b → filter (under n) (part_by k v rest) ≡ cond b (part_by k v (filter (under n) rest)) (filter (under n) rest)
filter_part n k None rest true g = refl
filter_part n k None rest false g = refl
filter_part n k (Some v) rest b g = ap (λ q. cond q ((k, v) ∷ filter (under n) rest) (filter (under n) rest)) g

-- the values of the run are those of the node and its descendants
pub run_values : (es : Places) (n : Node) (i m : ℕ) → Run es n i m → part value_in (take m (drop i es)) ≡ filter (under n) (part value_in es)
run_values [] n zero zero run = refl
run_values [] n zero (suc m) run = refl
run_values [] n (suc i) zero run = refl
run_values [] n (suc i) (suc m) run = refl
run_values (x ∷ es) n zero zero run =
    run_values es n zero zero (tail_behind x es n run)
    ∙ sym (filter_part n x.0 x.1.value (part value_in es) false (run.behind 0 x (omega arith) (omega arith)))
run_values (x ∷ es) n zero (suc m) run =
    ap (part_by x.0 x.1.value) (run_values es n zero m (tail_start x es n m run))
    ∙ sym (filter_part n x.0 x.1.value (part value_in es) true (run.inside 0 x (omega arith) (omega arith)))
run_values (x ∷ es) n (suc i) m run =
    run_values es n i m (tail_before x es n i m run)
    ∙ sym (filter_part n x.0 x.1.value (part value_in es) false (run.before 0 x (omega arith)))

find_under : (es : Places) (n q : Node) → find node_cmp q (map (empty_under n) es) ≡ option_map (λ p. cond (covers n q) (emptied p) p) (find node_cmp q es)
find_under [] n q = refl
find_under (x ∷ es) n q = by (eq_by_cmp node_cmp q x.0) refl (find_under es n q)
  where
    by : (b : Bool) → eq_by_cmp node_cmp q x.0 ≡ b → find node_cmp q (map (empty_under n) es) ≡ option_map (λ p. cond (covers n q) (emptied p) p) (find node_cmp q es)
        → cond b (Some (cond (covers n x.0) (emptied x.1) x.1)) (find node_cmp q (map (empty_under n) es)) ≡ option_map (λ p. cond (covers n q) (emptied p) p) (cond b (Some x.1) (find node_cmp q es))
    by true g rest = ap (λ (k : Node). Some (cond (covers n k) (emptied x.1) x.1)) (sym (one_key node_exact q x.0 g))
    by false g rest = rest

below_under : (x n : Node) (es : Places) → below_all node_cmp x (map (empty_under n) es) ≡ below_all node_cmp x es
below_under x n [] = refl
below_under x n (e ∷ es) = ap (λ b. is_lt (node_cmp x e.0) && b) (below_under x n es)

rising_under : (n : Node) (es : Places) → is_sorted node_cmp (map (empty_under n) es) ≡ is_sorted node_cmp es
rising_under n [] = refl
rising_under n (e ∷ es) = λ j. below_under e.0 n es j && rising_under n es j

no_value_left : (p : Place) (v : Option Value) → p.value ≡ v → (cond (is_some v) (record { value = None; pins = p.pins + 1 }) p).value ≡ None
no_value_left p None e = e
no_value_left p (Some v) e = refl

one_pin_more : (p : Place) (v : Option Value) → (cond (is_some v) (record { value = None; pins = p.pins + 1 }) p).pins ≡ p.pins + cond (is_some v) 1 0
one_pin_more p None = omega arith
one_pin_more p (Some v) = refl

value_under : (b : Bool) (o : Option Place) → option_and_then value_in (option_map (λ p. cond b (emptied p) p) o) ≡ cond (not b) (option_and_then value_in o) None
unfolding emptied
value_under true None = refl
value_under false None = refl
value_under true (Some p) = no_value_left p p.value refl
value_under false (Some p) = refl

pins_under : (b : Bool) (o : Option Place) → pins_or (option_map (λ p. cond b (emptied p) p) o) ≡ pins_or o + cond (b && is_some (option_and_then value_in o)) 1 0
unfolding emptied
pins_under true None = refl
pins_under false None = refl
pins_under true (Some p) = one_pin_more p p.value
pins_under false (Some p) = omega arith

-- ---- of the tree

pub record Emptied (t : Contents) (fs : Places) (n : Node) : Type 0 where
  pub rising : IsRising fs
  pub globals : (contents fs).globals ≡ retain_keys t.globals (λ m. not (covers n m))
  pub pins : (m : Node) → pins_of (contents fs).pins m ≡ pins_of t.pins m + taken_at t.globals n m

pub run_emptied : (es : Places) (t : Contents) (n : Node) (i j : ℕ) → IsSeen es t → IsRun es n i j → Emptied t (emptied_in i (j - i) es) n
unfolding taken_at
run_emptied es t n i j seen run =
    let is : emptied_in i (j - i) es ≡ map (empty_under n) es = emptied_is es n i (j - i) (run_of es n i j run) in
    let rises : IsRising (map (empty_under n) es) = rising_under n es ∙ seen.rising in
    record {
      rising = subst IsRising (sym is) rises;
      globals = ap (λ l. (contents l).globals) is ∙ same_map node_total node_exact _ _ (λ q.
          value_at (map (empty_under n) es) rises q
          ∙ ap (option_and_then value_in) (find_under es n q)
          ∙ value_under (covers n q) (find node_cmp q es)
          ∙ ap (λ v. cond (not (covers n q)) v None) (sym (value_at es seen.rising q) ∙ ap (λ u. get u.globals q) seen.as_is)
          ∙ sym (get-kept node_total node_exact t.globals (λ m. not (covers n m)) q));
      pins = λ q.
          ap (λ l. pins_of (contents l).pins q) is
          ∙ pins_at (map (empty_under n) es) rises q
          ∙ ap pins_or (find_under es n q)
          ∙ pins_under (covers n q) (find node_cmp q es)
          ∙ (λ k. (sym (pins_at es seen.rising q) ∙ ap (λ u. pins_of u.pins q) seen.as_is) k + cond (covers n q && is_some ((sym (value_at es seen.rising q) ∙ ap (λ u. get u.globals q) seen.as_is) k)) 1 0);
    }

pub run_taken : (es : Places) (t : Contents) (n : Node) (i j : ℕ) → IsSeen es t → IsRun es n i j → part value_in (take (j - i) (drop i es)) ≡ filter (λ e. covers n e.0) (entries t.globals)
run_taken es t n i j seen run = run_values es n i (j - i) (run_of es n i j run) ∙ ap (filter (under n)) (sym (entries_seen es t seen))

-- the places that are emptied may be pinned once more
pub run_pins : (es : Places) (t : Contents) (n : Node) (i j : ℕ) → IsSeen es t → IsRun es n i j
    → ((m : Node) → covers n m ≡ true → contains_key t.globals m ≡ true → pins_of t.pins m + 1 < 2 ^ 64)
    → (k : ℕ) (d : Node × Place) → i ≤ k → k < j → let e = get_or es k d in OnSome e.1.value (e.1.pins + 1 < 2 ^ 64)
run_pins es t n i j seen run room k d le lt = by (get_or es k d).1.value refl
  where
    by : (v : Option Value) → (get_or es k d).1.value ≡ v → OnSome v ((get_or es k d).1.pins + 1 < 2 ^ 64)
    by None e = tt
    by (Some v) e =
        let found : Found t (get_or es k d).0 (Some (get_or es k d).1) = found_in es t k d seen (omega (arith, run.within)) in
        let room_here = room (get_or es k d).0 (run.inside k d le lt) (ap is_some (found.value ∙ e)) in
        omega (arith, found.pins, room_here)
