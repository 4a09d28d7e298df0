-- What is put back makes the globals what they were.
use Rattle.std.proofs.Common.{◌≡◌, ◌≤◌, ◌+◌, ◌-◌, ℕ, Bool, true, false, cond, not, ◌&&◌, List, [], ◌∷◌, ◌++◌, filter, IsTrue, Option, Some, None, option_map, unwrap_or, refl, sym, ap, ◌∙◌, arith}
use Rattle.std.specs.Ordering.{eq_by_cmp, is_eq, is_lt}
use Rattle.std.proofs.lemmas.Cmp.{tied_itself}
use Rattle.std.specs.FinMap.{get, insert, retain_keys, entries, find, is_sorted, entries_sorted, get-entries, get-retain_keys, same_map}
use Rattle.std.specs.FinMap.Entries.{below_all, find-where_key, is_sorted-where_key}
use Rattle.obj_kinds.proofs.Sorted.{stays}
use Rattle.obj_kinds.specs.declared.node.Node.{Node}
use Rattle.obj_kinds.specs.declared.value.Value.{Value}
use Rattle.obj_kinds.specs.Order.{node_cmp, covers}
use Rattle.obj_kinds.proofs.OrderLemmas.{node_total, node_exact}
use Rattle.global_tree.specs.Contents.{Globals, Pins, pins_of, pinned, unpinned}
use Rattle.global_tree.specs.Maps.{placed}
use Rattle.global_tree.proofs.MapLaws.{placed_back}
use Rattle.global_tree.proofs.PinLaws.{pins_of-pinned, pins_of-unpinned}
use Rattle.tran_log.specs.Levels.{Olds, as_olds, put_all, times}
use Rattle.tran_log.proofs.LevelLaws.{get-put_all}
use Rattle.store_core.specs.Machine.{killed}

-- where the pairs have what the nodes had, and all other nodes are the same
pub restored : (g h : Globals) (es : Olds)
    → ((n : Node) (v : Option Value) → find node_cmp n es ≡ Some v → v ≡ get g n)
    → ((n : Node) → find node_cmp n es ≡ None → get h n ≡ get g n)
    → put_all h es ≡ g
restored g h es olds same = same_map node_total node_exact _ _ (λ n. get-put_all es h n ∙ by n (find node_cmp n es) refl)
  where
    by : (n : Node) (o : Option (Option Value)) → find node_cmp n es ≡ o → unwrap_or o (get h n) ≡ get g n
    by n None e = same n e
    by n (Some v) e = olds n v e

find_olds : (es : List (Node × Value)) (n : Node) → find node_cmp n (as_olds es) ≡ option_map Some (find node_cmp n es)
find_olds [] n = refl
find_olds (e ∷ es) n = by (eq_by_cmp node_cmp n e.0) (find_olds es n)
  where
    by : (b : Bool) → find node_cmp n (as_olds es) ≡ option_map Some (find node_cmp n es) → cond b (Some (Some e.1)) (find node_cmp n (as_olds es)) ≡ option_map Some (cond b (Some e.1) (find node_cmp n es))
    by true h = refl
    by false h = h

pub find_killed : (g : Globals) (n m : Node) → find node_cmp m (killed g n) ≡ option_map Some (cond (covers n m) (get g m) None)
find_killed g n m =
    find_olds (filter (λ e. covers n e.0) (entries g)) m
    ∙ ap (option_map Some) (find-where_key node_cmp (covers n) m (λ x e. ap (covers n) (sym (node_exact m x e))) (entries g) ∙ ap (λ o. cond (covers n m) o None) (sym (get-entries g m)))

pub get_killed : (g : Globals) (n m : Node) → get (retain_keys g (λ x. not (covers n x))) m ≡ cond (not (covers n m)) (get g m) None
get_killed g n m = get-retain_keys g (λ x. not (covers n x)) m (λ x e. ap (λ y. not (covers n y)) (sym (node_exact m x e)))

pub restored_kill : (g : Globals) (n : Node) → put_all (retain_keys g (λ x. not (covers n x))) (killed g n) ≡ g
restored_kill g n = restored g _ (killed g n)
    (λ m v e. was (covers n m) (get g m) v (sym (find_killed g n m) ∙ e))
    (λ m e. get_killed g n m ∙ is (covers n m) (get g m) (sym (find_killed g n m) ∙ e))
  where
    was : (b : Bool) (o v : Option Value) → option_map Some (cond b o None) ≡ Some v → v ≡ o
    was true None v e = absurd cc
    was true (Some x) v e = grind arith
    was false o v e = absurd cc

    is : (b : Bool) (o : Option Value) → option_map Some (cond {A = Option Value} b o None) ≡ None → cond (not b) o None ≡ o
    is true None e = refl
    is true (Some x) e = absurd cc
    is false o e = refl

pub restored_set : (g : Globals) (n : Node) (v : Value) → put_all (insert g n v) ((n, get g n) ∷ []) ≡ g
unfolding placed
restored_set g n v = placed_back node_total node_exact g n (Some v)

-- a pin that is set and given back
pub pins_again : (p : Pins) (n m : Node) → pins_of (unpinned (pinned p n) n) m ≡ pins_of p m
pins_again p n m = pins_of-unpinned (pinned p n) n m ∙ ap (λ k. k - cond (eq_by_cmp node_cmp m n) 1 0) (pins_of-pinned p n m) ∙ by (pins_of p m) (cond (eq_by_cmp node_cmp m n) 1 0)
  where
    by : (k c : ℕ) → k + c - c ≡ k
    by k c = omega arith

-- the pairs behind are put back first
pub put_behind : (g : Globals) (es fs : Olds) → put_all g (es ++ fs) ≡ put_all (put_all g fs) es
put_behind g [] fs = refl
put_behind g (e ∷ es) fs = ap (λ h. placed h e.0 e.1) (put_behind g es fs)

pub times_behind : {X : Type 0} (es fs : List (Node × X)) (n : Node) → times (es ++ fs) n ≡ times es n + times fs n
times_behind [] fs n = omega arith
times_behind (e ∷ es) fs n = let h = times_behind es fs n in omega (arith, h)

-- the last pair put back, and then those before it
pub put_last : (g : Globals) (all es : List (Node × Value)) (e : Node × Value) → all ≡ es ++ e ∷ [] → put_all (placed g e.0 (Some e.1)) (as_olds es) ≡ put_all g (as_olds all)
put_last g all es e is = sym (ap (put_all g) (ap as_olds is ∙ split es) ∙ put_behind g (as_olds es) ((e.0, Some e.1) ∷ []))
  where
    split : (es : List (Node × Value)) → as_olds (es ++ e ∷ []) ≡ as_olds es ++ (e.0, Some e.1) ∷ []
    split [] = refl
    split (x ∷ xs) = ap (λ l. (x.0, Some x.1) ∷ l) (split xs)

pub times_last : {X : Type 0} (all es : List (Node × X)) (e : Node × X) (n : Node) → all ≡ es ++ e ∷ [] → times all n ≡ times es n + cond (eq_by_cmp node_cmp n e.0) 1 0
times_last all es e n is = ap (λ l. times l n) is ∙ times_behind es (e ∷ []) n ∙ omega arith

-- the pin of the last pair
pub last_pinned : {X : Type 0} (all es : List (Node × X)) (e : Node × X) → all ≡ es ++ e ∷ [] → 1 ≤ times all e.0
last_pinned all es e is =
    let tie : cond {A = ℕ} (eq_by_cmp node_cmp e.0 e.0) 1 0 ≡ 1 = ap (λ r. cond {A = ℕ} (is_eq r) 1 0) (tied_itself node_total e.0) in
    let h = times_last all es e e.0 is in
    omega arith

pub pins_left : (p : Pins) (n m : Node) → pins_of (unpinned p n) m ≡ pins_of p m - cond (eq_by_cmp node_cmp m n) 1 0
pins_left p n m = pins_of-unpinned p n m

pub pinned_here : (p : Pins) (n : Node) → 1 ≤ pins_of (pinned p n) n
pinned_here p n =
    let tie : cond {A = ℕ} (eq_by_cmp node_cmp n n) 1 0 ≡ 1 = ap (λ r. cond {A = ℕ} (is_eq r) 1 0) (tied_itself node_total n) in
    let h = pins_of-pinned p n n in
    omega arith

pub times_pairs : (es : List (Node × Value)) (n : Node) → times (as_olds es) n ≡ times es n
times_pairs [] n = refl
times_pairs (e ∷ es) n = ap (λ k. cond (eq_by_cmp node_cmp n e.0) 1 0 + k) (times_pairs es n)

below_olds : (x : Node) (es : List (Node × Value)) → below_all node_cmp x (as_olds es) ≡ below_all node_cmp x es
below_olds x [] = refl
below_olds x (e ∷ es) = ap (λ b. is_lt (node_cmp x e.0) && b) (below_olds x es)

sorted_olds : (es : List (Node × Value)) → is_sorted node_cmp (as_olds es) ≡ is_sorted node_cmp es
sorted_olds [] = refl
sorted_olds (e ∷ es) = ap (λ b. b && is_sorted node_cmp (as_olds es)) (below_olds e.0 es) ∙ ap (λ b. below_all node_cmp e.0 es && b) (sorted_olds es)

pub killed_rising : (g : Globals) (n : Node) → IsTrue (is_sorted node_cmp (killed g n))
killed_rising g n = sorted_olds (filter (λ e. covers n e.0) (entries g)) ∙ (stays _ (is_sorted-where_key node_cmp (covers n) (entries g) (entries_sorted g)))
