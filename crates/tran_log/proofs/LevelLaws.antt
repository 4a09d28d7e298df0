-- Laws of levels: what they keep, and what undoing them gives.
use Rattle.std.proofs.Common.{◌≡◌, ℕ, ◌+◌, ◌-◌, ◌≤◌, Bool, true, false, cond, List, [], ◌∷◌, Option, Some, None, is_some, unwrap_or, refl, sym, ap, ◌∙◌, arith, IsTrue}
use Rattle.std.specs.Option.{option_or}
use Rattle.std.specs.Ordering.{eq_by_cmp, is_eq}
use Rattle.std.proofs.lemmas.Cmp.{tied_itself}
use Rattle.std.specs.FinMap.{find, is_sorted, from_sorted, get, entries, contains_key, get-insert, get-entries, same_map}
use Rattle.std.specs.FinMap as map
use Rattle.obj_kinds.specs.declared.node.Node.{Node}
use Rattle.obj_kinds.specs.declared.value.Value.{Value}
use Rattle.obj_kinds.specs.Order.{node_cmp}
use Rattle.obj_kinds.proofs.OrderLemmas.{node_total, node_exact}
use Rattle.global_tree.specs.Maps.{placed}
use Rattle.obj_kinds.specs.Search.{IsHit, IsGap}
use Rattle.global_tree.proofs.MapLaws.{one_key, get-placed}
use Rattle.global_tree.proofs.Parts.{first, second, find_below}
use Rattle.obj_kinds.proofs.Sorted.{find_hit, find_gap, get_sorted}
use Rattle.tran_log.specs.Levels.{Olds, Level, Levels, Globals, noted_one, noted, put_all, undone, all_undone, committed, has, times}

-- ---- one pair

pub noted_has : (l : Level) (n : Node) (v : Option Value) → contains_key l n ≡ true → noted_one l n v ≡ l
unfolding noted_one
noted_has l n v h = ap (λ b. cond b l (map.insert l n v)) h

pub noted_new : (l : Level) (n : Node) (v : Option Value) → contains_key l n ≡ false → noted_one l n v ≡ map.insert l n v
unfolding noted_one
noted_new l n v h = ap (λ b. cond b l (map.insert l n v)) h

pub has_new : (l : Level) (n : Node) (v : Option Value) (m : Node) → contains_key l n ≡ false → has (map.insert l n v) m ≡ has l m + cond (eq_by_cmp node_cmp m n) 1 0
has_new l n v m h = ap (λ o. cond (is_some o) 1 0) (get-insert node_total l n v m) ∙ by (eq_by_cmp node_cmp m n) refl
  where
    by : (b : Bool) → eq_by_cmp node_cmp m n ≡ b → cond (is_some (cond b (Some v) (get l m))) 1 0 ≡ has l m + cond b 1 0
    by true g = sym (ap (λ k. has l k + 1) (one_key node_exact m n g) ∙ ap (λ b. cond b 1 0 + 1) h)
    by false g = omega arith

pub hit_has : (es : Olds) (n : Node) (i : ℕ) → IsTrue (is_sorted node_cmp es) → IsHit node_cmp es n i → contains_key (from_sorted {R = node_cmp} es) n ≡ true
hit_has es n i h hit = ap is_some (get_sorted node_cmp node_total es n h ∙ find_hit node_cmp node_total es n i (n, None) h hit)

pub gap_lacks : (es : Olds) (n : Node) (i : ℕ) → IsTrue (is_sorted node_cmp es) → IsGap node_cmp es n i → contains_key (from_sorted {R = node_cmp} es) n ≡ false
gap_lacks es n i h gap = ap is_some (get_sorted node_cmp node_total es n h ∙ find_gap node_cmp node_total es n i gap)

-- ---- the first value of a node is kept

choose : (b : Bool) (o r : Option (Option Value)) (v : Option Value) → option_or (cond (is_some o) o (cond b (Some v) o)) r ≡ option_or o (cond b (Some v) r)
choose b (Some x) r v = refl
choose true None r v = refl
choose false None r v = refl

get-noted_one : (l : Level) (n : Node) (v : Option Value) (m : Node) → get (noted_one l n v) m ≡ cond (is_some (get l m)) (get l m) (cond (eq_by_cmp node_cmp m n) (Some v) (get l m))
unfolding noted_one
get-noted_one l n v m = by (contains_key l n) refl
  where
    one : eq_by_cmp node_cmp m n ≡ true → contains_key l n ≡ is_some (get l m)
    one g = ap (λ k. contains_key l k) (sym (one_key node_exact m n g))

    was : contains_key l n ≡ true → (o : Option (Option Value)) → get l m ≡ o → (b : Bool) → eq_by_cmp node_cmp m n ≡ b → o ≡ cond (is_some o) o (cond b (Some v) o)
    was h (Some x) e b g = refl
    was h None e false g = refl
    was h None e true g = let not_there : is_some (get l m) ≡ false = ap is_some e in cc (one g)

    added : contains_key l n ≡ false → (o : Option (Option Value)) → get l m ≡ o → (b : Bool) → eq_by_cmp node_cmp m n ≡ b → cond b (Some v) o ≡ cond (is_some o) o (cond b (Some v) o)
    added h (Some x) e false g = refl
    added h None e b g = refl
    added h (Some x) e true g = let there : is_some (get l m) ≡ true = ap is_some e in cc (one g)

    by : (b : Bool) → contains_key l n ≡ b → get (cond b l (map.insert l n v)) m ≡ cond (is_some (get l m)) (get l m) (cond (eq_by_cmp node_cmp m n) (Some v) (get l m))
    by true g = was g (get l m) refl (eq_by_cmp node_cmp m n) refl
    by false g = get-insert node_total l n v m ∙ added g (get l m) refl (eq_by_cmp node_cmp m n) refl

pub get-noted : (es : Olds) (l : Level) (n : Node) → get (noted l es) n ≡ option_or (get l n) (find node_cmp n es)
get-noted [] l n = keep (get l n)
  where
    keep : (o : Option (Option Value)) → o ≡ option_or o None
    keep None = refl
    keep (Some v) = refl
get-noted (e ∷ es) l n =
    get-noted es (noted_one l e.0 e.1) n
    ∙ ap (λ o. option_or o (find node_cmp n es)) (get-noted_one l e.0 e.1 n)
    ∙ choose (eq_by_cmp node_cmp n e.0) (get l n) (find node_cmp n es) e.1

-- ---- undoing puts the kept values back

pub get-put_all : (es : Olds) (g : Globals) (n : Node) → get (put_all g es) n ≡ unwrap_or (find node_cmp n es) (get g n)
get-put_all [] g n = refl
get-put_all (e ∷ es) g n = get-placed node_total (put_all g es) e.0 e.1 n ∙ by (eq_by_cmp node_cmp n e.0) (get-put_all es g n)
  where
    by : (b : Bool) → get (put_all g es) n ≡ unwrap_or (find node_cmp n es) (get g n) → cond b e.1 (get (put_all g es) n) ≡ unwrap_or (cond b (Some e.1) (find node_cmp n es)) (get g n)
    by true rest = refl
    by false rest = rest

pub get-undone : (l : Level) (g : Globals) (n : Node) → get (undone g l) n ≡ unwrap_or (get l n) (get g n)
get-undone l g n = get-put_all (entries l) g n ∙ ap (λ o. unwrap_or o (get g n)) (sym (get-entries l n))

-- a write whose first values are noted is undone with the level
pub undone_write : (l : Level) (g h : Globals) (es : Olds)
    → ((n : Node) (v : Option Value) → find node_cmp n es ≡ Some v → v ≡ get g n)
    → ((n : Node) → find node_cmp n es ≡ None → get h n ≡ get g n)
    → undone h (noted l es) ≡ undone g l
undone_write l g h es olds same = same_map node_total node_exact _ _ (λ n.
    get-undone (noted l es) h n
    ∙ ap (λ o. unwrap_or o (get h n)) (get-noted es l n)
    ∙ by n (get l n) (find node_cmp n es) refl
    ∙ sym (get-undone l g n))
  where
    by : (n : Node) (o r : Option (Option Value)) → find node_cmp n es ≡ r → unwrap_or (option_or o r) (get h n) ≡ unwrap_or o (get g n)
    by n (Some v) r e = refl
    by n None None e = same n e
    by n None (Some v) e = olds n v e

-- what an inner commit adds to the level below is undone with it
pub undone_commit : (g : Globals) (l k : Level) (ls : Levels) → all_undone g (committed (l ∷ k ∷ ls)) ≡ all_undone g (l ∷ k ∷ ls)
undone_commit g l k ls = ap (λ h. all_undone h ls) (same_map node_total node_exact _ _ (λ n.
    get-undone (noted k (entries l)) g n
    ∙ ap (λ o. unwrap_or o (get g n)) (get-noted (entries l) k n ∙ ap (option_or (get k n)) (sym (get-entries l n)))
    ∙ by n (get k n) (get l n)
    ∙ sym (get-undone k (undone g l) n ∙ ap (unwrap_or (get k n)) (get-undone l g n))))
  where
    by : (n : Node) (o r : Option (Option Value)) → unwrap_or (option_or o r) (get g n) ≡ unwrap_or o (unwrap_or r (get g n))
    by n None r = refl
    by n (Some v) r = refl

-- ---- pairs in rising order

-- where a node stands, it stands once
pub times_rising : {X : Type 0} (es : List (Node × X)) → IsTrue (is_sorted node_cmp es) → (n : Node) → times es n ≡ cond (is_some (find node_cmp n es)) 1 0
times_rising [] h n = refl
times_rising (e ∷ es) h n = by (eq_by_cmp node_cmp n e.0) refl (times_rising es (second _ _ h) n)
  where
    by : (b : Bool) → eq_by_cmp node_cmp n e.0 ≡ b → times es n ≡ cond (is_some (find node_cmp n es)) 1 0 → cond b 1 0 + times es n ≡ cond (is_some (cond b (Some e.1) (find node_cmp n es))) 1 0
    by true g rest = let gone : times es n ≡ 0 = rest ∙ ap (λ o. cond (is_some o) 1 0) (find_below node_cmp node_total node_exact n e.0 es (first _ _ h) g) in omega arith
    by false g rest = omega (arith, rest)

pub times_level : (es : Olds) → IsTrue (is_sorted node_cmp es) → (n : Node) → times es n ≡ has (from_sorted {R = node_cmp} es) n
times_level es h n = times_rising es h n ∙ ap (λ o. cond (is_some o) 1 0) (sym (get_sorted node_cmp node_total es n h))

-- one pair put back, and then the others
pub put_first : (e : Node × Option Value) (es : Olds) (g : Globals) → IsTrue (is_sorted node_cmp (e ∷ es)) → put_all (placed g e.0 e.1) es ≡ put_all g (e ∷ es)
put_first e es g h = same_map node_total node_exact _ _ (λ n.
    get-put_all es (placed g e.0 e.1) n
    ∙ ap (unwrap_or (find node_cmp n es)) (get-placed node_total g e.0 e.1 n)
    ∙ by n (eq_by_cmp node_cmp n e.0) refl
    ∙ sym (get-put_all (e ∷ es) g n))
  where
    by : (n : Node) (b : Bool) → eq_by_cmp node_cmp n e.0 ≡ b → unwrap_or (find node_cmp n es) (cond b e.1 (get g n)) ≡ unwrap_or (cond b (Some e.1) (find node_cmp n es)) (get g n)
    by n true q = ap (λ o. unwrap_or o e.1) (find_below node_cmp node_total node_exact n e.0 es (first _ _ h) q)
    by n false q = refl

-- ---- pins

pub times_here : (e : Node × Option Value) (es : Olds) → 1 ≤ times (e ∷ es) e.0
times_here e es =
    let tie : cond {A = ℕ} (eq_by_cmp node_cmp e.0 e.0) 1 0 ≡ 1 = ap (λ r. cond {A = ℕ} (is_eq r) 1 0) (tied_itself node_total e.0) in
    omega arith

-- one of the pins that are owed is given back
pub one_back : (p owed had one left : ℕ) → p + owed ≡ had + (one + left) → owed ≤ had → (p - one) + owed ≡ had + left
one_back p owed had one left is le = omega arith

pub still_owed : (p owed had now : ℕ) → p + owed ≡ had + now → owed ≤ had → now ≤ p
still_owed p owed had now is le = omega arith
