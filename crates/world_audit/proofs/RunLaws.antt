-- The nodes at or below a row stand together.
use Rattle.std.proofs.Common.{◌≡◌, ◌<◌, ◌≤◌, ℕ, zero, suc, Bool, true, false, cond, [], ◌∷◌, filter, drop, length, get_or, IsTrue, refl, sym, ap, ◌∙◌, arith}
use Rattle.std.specs.declared.cmp.Ordering.{Ordering}
use Rattle.std.specs.declared.cmp.Ordering.TheVariants.{Less, Equal, Greater}
use Rattle.std.specs.Ordering.{is_lt, ordering_reverse}
use Rattle.std.specs.List.Sorted.{IsPartitionedBy}
use Rattle.std.specs.FinMap.{is_sorted}
use Rattle.std.specs.FinMap.Entries.{below_all}
use Rattle.obj_kinds.specs.declared.node.Node.{Node}
use Rattle.obj_kinds.specs.declared.value.Value.{Value}
use Rattle.obj_kinds.specs.Order.{node_cmp, covers}
use Rattle.obj_kinds.specs.OrderLaws.{node_total, node_exact}
use Rattle.obj_kinds.proofs.LineLaws.{before_apart, covers_run, covers_itself}
use Rattle.obj_kinds.proofs.Sorted.{less, first, second}
use Rattle.global_tree.proofs.Parted.{parted_by}
use Rattle.world_audit.specs.Objects.{Told, nodes_under}
use Rattle.world_audit.specs.Runs.{front_run}

pub parted_rows : (row : Node) (es : Told) → IsTrue (is_sorted node_cmp es) → IsPartitionedBy (λ e. is_lt (node_cmp e.0 row)) es
parted_rows row es h = parted_by (λ m. is_lt (node_cmp m row)) (λ a b lt p. ap is_lt (node_total.trans a b row lt (less _ p))) es h

-- behind a node that isn't at or below the row, and not before it, there is none
none_behind : (row a : Node) (es : Told) → node_cmp row a ≡ Less → covers row a ≡ false → IsTrue (below_all node_cmp a es) → filter (λ e. covers row e.0) es ≡ []
none_behind row a [] after apart rises = refl
none_behind row a (e ∷ es) after apart rises = by (covers row e.0) refl (none_behind row a es after apart (second (is_lt (node_cmp a e.0)) (below_all node_cmp a es) rises))
  where
    by : (b : Bool) → covers row e.0 ≡ b → filter (λ d. covers row d.0) es ≡ [] → cond b (e ∷ filter (λ d. covers row d.0) es) (filter (λ d. covers row d.0) es) ≡ []
    by true over rest = let is = covers_run row a e.0 after (less _ (first (is_lt (node_cmp a e.0)) (below_all node_cmp a es) rises)) over in cc
    by false over rest = rest

not_over : (row a : Node) → is_lt (node_cmp a row) ≡ false → covers row a ≡ false → node_cmp row a ≡ Less
not_over row a from apart = by (node_cmp row a) refl
  where
    by : (o : Ordering) → node_cmp row a ≡ o → o ≡ Less
    by Less e = refl
    by Equal e = let over : covers row a ≡ true = ap (covers row) (sym (node_exact row a e)) ∙ covers_itself row in cc
    by Greater e = let before : is_lt (node_cmp a row) ≡ true = ap is_lt (node_total.antisymm a row ∙ ap ordering_reverse e) in cc

-- where no node stands before the row, those at or below it come first
front_is : (row : Node) (es : Told) → IsTrue (is_sorted node_cmp es) → ((k : ℕ) (d : Node × Value) → k < length es → is_lt (node_cmp (get_or es k d).0 row) ≡ false) → front_run row es ≡ nodes_under row es
front_is row [] rises from = refl
front_is row (e ∷ es) rises from = by (covers row e.0) refl (front_is row es (second (below_all node_cmp e.0 es) (is_sorted node_cmp es) rises) (λ k d lt. from (suc k) d (omega arith)))
  where
    by : (b : Bool) → covers row e.0 ≡ b → front_run row es ≡ nodes_under row es → cond b (e ∷ front_run row es) [] ≡ cond b (e ∷ nodes_under row es) (nodes_under row es)
    by true over rest = ap (λ ds. e ∷ ds) rest
    by false over rest = sym (none_behind row e.0 es (not_over row e.0 (from 0 e (omega arith)) over) over (first (below_all node_cmp e.0 es) (is_sorted node_cmp es) rises))

pub run_is : (row : Node) (es : Told) (i : ℕ) → IsTrue (is_sorted node_cmp es) → i ≤ length es
    → ((k : ℕ) (d : Node × Value) → 0 ≤ k → k < i → is_lt (node_cmp (get_or es k d).0 row) ≡ true)
    → ((k : ℕ) (d : Node × Value) → i ≤ k → k < length es → is_lt (node_cmp (get_or es k d).0 row) ≡ false)
    → front_run row (drop i es) ≡ nodes_under row es
run_is row es zero rises le before from = front_is row es rises (λ k d lt. from k d (omega arith) lt)
run_is row [] (suc i) rises le before from = absurd (omega (arith, le))
run_is row (e ∷ es) (suc i) rises le before from =
    run_is row es i (second (below_all node_cmp e.0 es) (is_sorted node_cmp es) rises) (omega (arith, le)) (λ k d low lt. before (suc k) d (omega arith) (omega arith)) (λ k d low lt. from (suc k) d (omega arith) (omega arith))
    ∙ ap (λ b. cond b (e ∷ nodes_under row es) (nodes_under row es)) (sym (before_apart row e.0 (less _ (before 0 e (omega arith) (omega arith)))))
