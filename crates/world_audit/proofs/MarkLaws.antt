-- Marks at nodes.
use Rattle.std.proofs.Common.{◌≡◌, ℕ, zero, suc, Bool, true, false, cond, not, ◌||◌, List, [], ◌∷◌, map, length, set, Option, IsTrue, refl, sym, ap, ◌∙◌, arith}
use Rattle.std.specs.declared.cmp.Ordering.TheVariants.{Less, Equal, Greater}
use Rattle.std.specs.Ordering.{is_lt, is_eq}
use Rattle.std.specs.FinMap.{find, is_sorted}
use Rattle.std.specs.FinMap.Entries.{below_all}
use Rattle.obj_kinds.specs.declared.node.Node.{Node}
use Rattle.obj_kinds.specs.Order.{node_cmp}
use Rattle.obj_kinds.specs.OrderLaws.{node_total}
use Rattle.obj_kinds.specs.Search.{IsHit, IsGap}
use Rattle.obj_kinds.proofs.Sorted.{less, first, second, turned, before_hit, hit_tail}
use Rattle.storage_map.specs.Entries.{valued_empty}
use Rattle.world_audit.specs.Objects.{Told}
use Rattle.world_audit.specs.Least.{noted}
use Rattle.world_audit.specs.Marks.{is_entered, lacking, mark, mark_all, no_marks}

pub mark_long : (nodes : Told) (n : Node) (marks : List Bool) → length marks ≡ length nodes → length (mark nodes n marks) ≡ length nodes
mark_long [] n marks h = h
mark_long (e ∷ es) n [] h = absurd (omega (arith, h))
mark_long (e ∷ es) n (m ∷ ms) h = ap suc (mark_long es n ms (let k : length ms ≡ length es = omega (arith, h) in k))

pub marks_long : (nodes : Told) (ns : List Node) (marks : List Bool) → length marks ≡ length nodes → length (mark_all nodes marks ns) ≡ length nodes
marks_long nodes [] marks h = h
marks_long nodes (n ∷ ns) marks h = marks_long nodes ns (mark nodes n marks) (mark_long nodes n marks h)

same : (a : Bool) → a || false ≡ a
same true = refl
same false = refl

either_true : (a : Bool) → a || true ≡ true
either_true true = refl
either_true false = refl

none_below : (n : Node) (es : Told) (marks : List Bool) → IsTrue (below_all node_cmp n es) → length marks ≡ length es → mark es n marks ≡ marks
none_below n [] marks rises long = refl
none_below n (e ∷ es) [] rises long = absurd (omega (arith, long))
none_below n (e ∷ es) (m ∷ ms) rises long =
    let before = less _ (first (is_lt (node_cmp n e.0)) (below_all node_cmp n es) rises) in
    λ i. (ap (λ r. m || is_eq r) before ∙ same m) i ∷ none_below n es ms (second (is_lt (node_cmp n e.0)) (below_all node_cmp n es) rises) (let k : length ms ≡ length es = omega (arith, long) in k) i

tied_below : (n m : Node) (es : Told) → node_cmp n m ≡ Equal → IsTrue (below_all node_cmp m es) → IsTrue (below_all node_cmp n es)
tied_below n m [] tie h = refl
tied_below n m (e ∷ es) tie h =
    Rattle.obj_kinds.proofs.Sorted.both (is_lt (node_cmp n e.0)) (below_all node_cmp n es)
    (ap is_lt (node_total.congr n m e.0 tie) ∙ first (is_lt (node_cmp m e.0)) (below_all node_cmp m es) h) (tied_below n m es tie (second (is_lt (node_cmp m e.0)) (below_all node_cmp m es) h))

-- a mark is set where the node stands
pub mark_hit : (nodes : Told) (n : Node) (marks : List Bool) (i : ℕ) → IsTrue (is_sorted node_cmp nodes) → length marks ≡ length nodes → IsHit node_cmp nodes n i → set marks i true ≡ mark nodes n marks
mark_hit [] n marks i rises long hit = let no = hit.in_range in absurd (omega (arith, no))
mark_hit (e ∷ es) n [] i rises long hit = absurd (omega (arith, long))
mark_hit (e ∷ es) n (m ∷ ms) zero rises long hit =
    let tie : node_cmp n e.0 ≡ Equal = turned node_cmp node_total e.0 n Equal (hit.ties e) in
    let rest = none_below n es ms (tied_below n e.0 es tie (first (below_all node_cmp e.0 es) (is_sorted node_cmp es) rises)) (let k : length ms ≡ length es = omega (arith, long) in k) in
    λ j. sym (ap (λ r. m || is_eq r) tie ∙ either_true m) j ∷ sym rest j
mark_hit (e ∷ es) n (m ∷ ms) (suc i) rises long hit =
    let behind : node_cmp n e.0 ≡ Greater = before_hit node_cmp node_total e es n i rises hit in
    let rest = mark_hit es n ms i (second (below_all node_cmp e.0 es) (is_sorted node_cmp es) rises) (let k : length ms ≡ length es = omega (arith, long) in k) (hit_tail node_cmp node_total e es n i hit) in
    λ j. sym (ap (λ r. m || is_eq r) behind ∙ same m) j ∷ rest j

-- and nowhere else
pub mark_gap : (nodes : Told) (n : Node) (marks : List Bool) (i : ℕ) → length marks ≡ length nodes → IsGap node_cmp nodes n i → marks ≡ mark nodes n marks
mark_gap [] n marks i long gap = refl
mark_gap (e ∷ es) n [] i long gap = absurd (omega (arith, long))
mark_gap (e ∷ es) n (m ∷ ms) zero long gap =
    let behind : node_cmp n e.0 ≡ Less = turned node_cmp node_total e.0 n Greater (gap.greater_after 0 e (omega arith) (omega arith)) in
    let rest = mark_gap es n ms zero (let k : length ms ≡ length es = omega (arith, long) in k) (record { in_range = omega arith; smaller_before = λ j d lt. absurd (omega arith); greater_after = λ j d le lt. gap.greater_after (suc j) d (omega arith) (omega arith) }) in
    λ j. sym (ap (λ r. m || is_eq r) behind ∙ same m) j ∷ rest j
mark_gap (e ∷ es) n (m ∷ ms) (suc i) long gap =
    let before : node_cmp n e.0 ≡ Greater = turned node_cmp node_total e.0 n Less (gap.smaller_before 0 e (omega arith)) in
    let within = gap.in_range in
    let rest = mark_gap es n ms i (let k : length ms ≡ length es = omega (arith, long) in k)
    (record { in_range = omega (arith, within); smaller_before = λ j d lt. gap.smaller_before (suc j) d (omega arith); greater_after = λ j d le lt. gap.greater_after (suc j) d (omega arith) (omega arith) }) in
    λ j. sym (ap (λ r. m || is_eq r) before ∙ same m) j ∷ rest j

-- entries with the empty text are those entries
pub entry_nodes_back : (ns : List Node) → map (λ e. e.0) (valued_empty ns) ≡ ns
entry_nodes_back [] = refl
entry_nodes_back (n ∷ ns) = ap (λ ms. n ∷ ms) (entry_nodes_back ns)

pub none_long : (nodes : Told) → length (no_marks nodes) ≡ length nodes
none_long [] = refl
none_long (e ∷ es) = ap suc (none_long es)

pub lacking_more : (nodes : Told) (n : Node) (ns : List Node) (least : Option Node) → noted (noted least (lacking nodes (n ∷ []))) (lacking nodes ns) ≡ noted least (lacking nodes (n ∷ ns))
lacking_more nodes n ns least = by (is_entered (find node_cmp n nodes))
  where
    by : (b : Bool) → noted (noted least (cond (not b) (n ∷ []) [])) (lacking nodes ns) ≡ noted least (cond (not b) (n ∷ lacking nodes ns) (lacking nodes ns))
    by true = refl
    by false = refl
