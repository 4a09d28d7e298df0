-- What the parts of a new store stand for.
use Rattle.std.proofs.Common.{◌≡◌, ◌≢◌, ◌≤◌, ◌<◌, ◌^◌, ℕ, zero, suc, ◌+◌, ◌-◌, Bool, true, false, cond, ◌&&◌, IsTrue, List, [], ◌∷◌, ◌++◌, length, get_or, take, unwrap_or, Option, Some, None, refl, sym, ap, ◌∙◌, subst, arith, nat_cmp, length-append}
use Rattle.std.proofs.lemmas.Cmp.{nat_cmp_total, tied_itself}
use Rattle.std.proofs.lemmas.List.{take_more}
use Rattle.std.proofs.lemmas.List.Sums.{sum_by-append}
use Rattle.std.specs.List.{sum_by, list_all}
use Rattle.std.specs.Ordering.{eq_by_cmp, is_eq, is_lt}
use Rattle.std.specs.FinMap.{get, insert, empty, find, from_entries, from_entries_push, is_sorted, get-empty, get-insert, nat_cmp-IsAntisymmetric}
use Rattle.std.specs.FinMap.Entries.{below_all}
use Rattle.obj_kinds.specs.declared.node.Node.{Node}
use Rattle.obj_kinds.specs.declared.value.Value.{Value}
use Rattle.obj_kinds.specs.Order.{node_cmp}
use Rattle.obj_kinds.proofs.OrderLemmas.{node_total, node_exact}
use Rattle.global_tree.specs.Contents.{Contents, Globals, Pins, pins_of}
use Rattle.global_tree.proofs.MapLaws.{one_key}
use Rattle.tran_log.specs.Levels.{Levels, kept_by}
use Rattle.store_core.specs.Machine.{all_live, opening}
use Rattle.store_core.specs.declared.entry.Entry.{Entry}
use Rattle.store_core.specs.Volume.{volume}
use Rattle.store_core.specs.Ledger.{Pairs}
use Rattle.store_core.specs.Tied.{Logs, fresh, levels_in, IsOwed, IsTied}
use Rattle.store_core.specs.Within.{is_legal_pair}
use Rattle.store_core.specs.Stands.{IsStore}
use Rattle.store_core.proofs.StoreLaws.{ledger}

-- THE NODES, ONE AFTER ANOTHER

both : (a b : Bool) → a && b ≡ true → (a ≡ true) × (b ≡ true)
both true b e = (refl, e)
both false b e = absurd cc

below_get : (k : Node) (es : Pairs) (i : ℕ) (d : Node × Value) → below_all node_cmp k es ≡ true → i < length es → is_lt (node_cmp k (get_or es i d).0) ≡ true
below_get k [] i d below lt = absurd (omega (arith, lt))
below_get k (e ∷ es) zero d below lt = (both _ _ below).0
below_get k (e ∷ es) (suc i) d below lt = below_get k es i d (both _ _ below).1 (omega (arith, lt))

lesser : (k q : Node) → is_lt (node_cmp k q) ≡ true → eq_by_cmp node_cmp q k ≡ false
lesser k q lt = by (eq_by_cmp node_cmp q k) refl
  where
    never : is_lt (node_cmp k k) ≡ false
    never = ap is_lt (tied_itself node_total k)

    by : (b : Bool) → eq_by_cmp node_cmp q k ≡ b → b ≡ false
    by true e = let same : q ≡ k = one_key node_exact q k e in let h = ap (λ x. is_lt (node_cmp k x)) same in let n = never in absurd cc
    by false e = refl

sorted_new : (es : Pairs) (i : ℕ) (d : Node × Value) → is_sorted node_cmp es ≡ true → i < length es → find node_cmp (get_or es i d).0 (take i es) ≡ None
sorted_new [] i d sorted lt = absurd (omega (arith, lt))
sorted_new (e ∷ es) zero d sorted lt = refl
sorted_new (e ∷ es) (suc i) d sorted lt =
    let s = both _ _ sorted in
    let q = (get_or es i d).0 in
    ap (λ b. cond b (Some e.1) (find node_cmp q (take i es))) (lesser e.0 q (below_get e.0 es i d s.0 (omega (arith, lt))))
    ∙ sorted_new es i d s.1 (omega (arith, lt))

pub one_more : (es : Pairs) (i : ℕ) (d : Node × Value) → IsTrue (is_sorted node_cmp es) → i < length es → from_entries {R = node_cmp} (take (i + 1) es) ≡ insert (from_entries (take i es)) (get_or es i d).0 (get_or es i d).1
one_more es i d sorted lt =
    ap (from_entries {R = node_cmp}) (take_more es i d lt)
    ∙ from_entries_push node_total node_exact (take i es) (get_or es i d).0 (get_or es i d).1 (sorted_new es i d sorted lt)

-- THE LOGS

pub length-fresh : (n : ℕ) → length (fresh n) ≡ n
length-fresh zero = refl
length-fresh (suc n) = let h = length-fresh n in let e = length-append (fresh n) (Some [] ∷ []) in omega arith

get_last : (logs : Logs) (o : Option Levels) (i : ℕ) → i ≡ length logs → get_or (logs ++ o ∷ []) i None ≡ o
get_last [] o i e = ap (λ k. get_or (o ∷ []) k None) e
get_last (x ∷ logs) o zero e = absurd (omega (arith, e))
get_last (x ∷ logs) o (suc i) e = get_last logs o i (omega (arith, e))

get_before : (logs : Logs) (o : Option Levels) (i : ℕ) → i ≢ length logs → get_or (logs ++ o ∷ []) i None ≡ get_or logs i None
get_before [] o zero ne = absurd (ne refl)
get_before [] o (suc i) ne = refl
get_before (x ∷ logs) o zero ne = refl
get_before (x ∷ logs) o (suc i) ne = get_before logs o i (omega (arith, ne))

fresh_levels : (n i : ℕ) → get (all_live n) (i + 1) ≡ get_or (fresh n) i None
fresh_levels zero i = get-empty {X = Levels} nat_cmp (i + 1)
fresh_levels (suc n) i = get-insert nat_cmp_total (all_live n) (suc n) [] (i + 1) ∙ by (eq_by_cmp nat_cmp (i + 1) (suc n)) refl (fresh_levels n i)
  where
    by : (b : Bool) → eq_by_cmp nat_cmp (i + 1) (suc n) ≡ b → get (all_live n) (i + 1) ≡ get_or (fresh n) i None → cond b (Some []) (get (all_live n) (i + 1)) ≡ get_or (fresh n ++ Some [] ∷ []) i None
    by true e rest =
        let k : i + 1 ≡ suc n = one_key nat_cmp-IsAntisymmetric (i + 1) (suc n) e in
        sym (get_last (fresh n) (Some []) i (omega (arith, k, length-fresh n)))
    by false e rest =
        let ne : i + 1 ≢ suc n = λ k. let t : eq_by_cmp nat_cmp (i + 1) (suc n) ≡ true = ap (λ x. eq_by_cmp nat_cmp (i + 1) x) (sym k) ∙ ap is_eq (tied_itself nat_cmp_total (i + 1)) in cc in
        rest ∙ sym (get_before (fresh n) (Some []) i (λ k. ne (omega (arith, k, length-fresh n))))

fresh_none : (f : Option Levels → ℕ) → f (Some []) ≡ 0 → (n : ℕ) → sum_by f (fresh n) ≡ 0
fresh_none f idle zero = refl
fresh_none f idle (suc n) =
    let h = fresh_none f idle n in
    let e = sum_by-append f (fresh n) (Some [] ∷ []) in
    omega (arith, h, e, idle)

fresh_owed : (pins : Pins) (n : ℕ) → n ≤ 64 → ((m : Node) → pins_of pins m ≡ 0) → IsOwed pins (fresh n)
fresh_owed pins n most none = record {
  pinned = λ m. none m ∙ sym (fresh_none (λ o. kept_by (levels_in o) m) refl n);
  low = fresh_none (λ o. length (levels_in o) - 255) refl n;
  few = omega (arith, length-fresh n);
}

-- THE STORE

pub new_store : (nodes : Pairs) (tree : Contents) (logs : Logs) (n places room : ℕ) → 1 ≤ n → n ≤ 64 → IsTrue (is_sorted node_cmp nodes) → list_all is_legal_pair nodes ≡ true
    → tree.globals ≡ from_entries nodes → ((m : Node) → pins_of tree.pins m ≡ 0) → logs ≡ fresh n → n ≤ places → room < 2 ^ 64
    → IsStore nodes tree empty logs [] places room
new_store nodes tree logs n places room some most rising limits globals none is enough low = subst (λ ls. IsStore nodes tree empty ls [] places room) (sym is) (record {
  some = omega (arith, length-fresh n);
  rising = rising;
  within = limits;
  legal_ops = tt;
  legal = tt;
  tied = subst (λ k. IsTied (opening k (from_entries nodes)) tree.globals empty (fresh n)) (sym (length-fresh n)) (record {
    same_globals = sym globals;
    same_holds = refl;
    same_levels = fresh_levels n;
  });
  owed = fresh_owed tree.pins n most none;
  placed = omega (arith, length-fresh n);
  low = omega arith;
})

-- the next node is put into the tree
pub planted : (es : Pairs) (i : ℕ) (e : Node × Value) (g : Globals) (v : Value) → IsTrue (is_sorted node_cmp es) → i < length es → e ≡ get_or es i e → v ≡ e.1 → g ≡ from_entries (take i es)
    → insert g e.0 v ≡ from_entries {R = node_cmp} (take (i + 1) es)
planted es i e g v sorted lt is same before =
    ap (insert g e.0) same
    ∙ ap (λ x. insert x e.0 e.1) before
    ∙ ap (λ (x : Node × Value). insert (from_entries {R = node_cmp} (take i es)) x.0 x.1) is
    ∙ sym (one_more es i e sorted lt)

pub no_pins : (n : Node) → pins_of empty n ≡ 0
unfolding pins_of
no_pins n = ap (λ o. unwrap_or o 0) (get-empty {X = ℕ} node_cmp n)

-- the ledger of a new store
pub opened_is : (nodes : Pairs) (logs : Logs) (es : List Entry) (n room : ℕ) → logs ≡ fresh n → es ≡ [] → ledger nodes logs es room ≡ record { nodes = nodes; pids = n; limit = room; history = [] }
opened_is nodes logs es n room is none = λ i. record { nodes = nodes; pids = len i; limit = all_left i; history = none i }
  where
    len : length logs ≡ n
    len = ap length is ∙ length-fresh n

    all_left : room + volume es ≡ room
    all_left = ap (λ x. room + volume x) none ∙ omega arith
