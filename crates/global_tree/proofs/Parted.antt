-- Where a test that falls with rising nodes parts places in node order.
use Rattle.std.proofs.Common.{◌≡◌, zero, suc, Bool, true, List, [], ◌∷◌, get_or, arith, IsTrue}
use Rattle.std.specs.declared.cmp.Ordering.TheVariants.{Less}
use Rattle.std.specs.List.Sorted.{IsPartitionedBy}
use Rattle.std.specs.FinMap.{is_sorted}
use Rattle.obj_kinds.specs.declared.node.Node.{Node}
use Rattle.obj_kinds.specs.Order.{node_cmp}
use Rattle.obj_kinds.proofs.OrderLemmas.{node_total}
use Rattle.global_tree.proofs.Parts.{first, second}
use Rattle.obj_kinds.proofs.Sorted.{below_each}

pub parted_by : {X : Type 0} (p : Node → Bool) → ((a b : Node) → node_cmp a b ≡ Less → p b ≡ true → p a ≡ true) → (es : List (Node × X)) → IsTrue (is_sorted node_cmp es) → IsPartitionedBy (λ e. p e.0) es
parted_by p falls [] h i j d le lt is = absurd (omega arith)
parted_by p falls (e ∷ es) h zero zero d le lt is = is
parted_by p falls (e ∷ es) h zero (suc j) d le lt is = falls e.0 (get_or es j d).0 (below_each node_cmp node_total e.0 es (first _ _ h) j d (omega arith)) is
parted_by p falls (e ∷ es) h (suc i) zero d le lt is = absurd (omega arith)
parted_by p falls (e ∷ es) h (suc i) (suc j) d le lt is = parted_by p falls es (second _ _ h) i j d (omega arith) (omega arith) is
