-- Nodes rise where each stands behind the one before it.
use Rattle.std.proofs.Common.{◌≡◌, Bool, true, false, ◌&&◌, List, [], ◌∷◌, refl, sym, ap, ◌∙◌}
use Rattle.std.specs.declared.cmp.Ordering.TheVariants.{Less}
use Rattle.std.specs.Ordering.{is_lt}
use Rattle.std.specs.FinMap.{is_sorted}
use Rattle.std.specs.FinMap.Entries.{below_all}
use Rattle.obj_kinds.specs.declared.node.Node.{Node}
use Rattle.obj_kinds.specs.declared.value.Value.{Value}
use Rattle.obj_kinds.specs.Order.{node_cmp}
use Rattle.obj_kinds.specs.OrderLaws.{node_total}
use Rattle.obj_kinds.specs.Rising.{is_chain}
use Rattle.obj_kinds.proofs.Sorted.{less, first, second, both}

below_before : (x y : Node) (es : List (Node × Value)) → node_cmp x y ≡ Less → below_all node_cmp y es ≡ true → below_all node_cmp x es ≡ true
below_before x y [] lt h = refl
below_before x y (e ∷ es) lt h =
    let here = node_total.trans x y e.0 lt (less _ (first (is_lt (node_cmp y e.0)) (below_all node_cmp y es) h)) in
    both (is_lt (node_cmp x e.0)) (below_all node_cmp x es) (ap is_lt here) (below_before x y es lt (second (is_lt (node_cmp y e.0)) (below_all node_cmp y es) h))

chained : (x : Node) (es : List (Node × Value)) → below_all node_cmp x es && is_sorted node_cmp es ≡ is_chain x es
chained x [] = refl
chained x (e ∷ es) = by (is_lt (node_cmp x e.0)) (below_all node_cmp e.0 es) refl refl ∙ ap (λ b. is_lt (node_cmp x e.0) && b) (chained e.0 es)
  where
    by : (a b : Bool) → is_lt (node_cmp x e.0) ≡ a → below_all node_cmp e.0 es ≡ b
        → (is_lt (node_cmp x e.0) && below_all node_cmp x es) && (below_all node_cmp e.0 es && is_sorted node_cmp es) ≡ is_lt (node_cmp x e.0) && (below_all node_cmp e.0 es && is_sorted node_cmp es)
    by true true p q =
        let all = below_before x e.0 es (less _ p) q in
        ap (λ a. (is_lt (node_cmp x e.0) && a) && (below_all node_cmp e.0 es && is_sorted node_cmp es)) all ∙ ap (λ a. a && (below_all node_cmp e.0 es && is_sorted node_cmp es)) (plain (is_lt (node_cmp x e.0)))
      where
        plain : (a : Bool) → a && true ≡ a
        plain true = refl
        plain false = refl
    by true false p q =
        ap (λ b. (is_lt (node_cmp x e.0) && below_all node_cmp x es) && (b && is_sorted node_cmp es)) q ∙ none (is_lt (node_cmp x e.0) && below_all node_cmp x es)
        ∙ sym (none (is_lt (node_cmp x e.0))) ∙ ap (λ b. is_lt (node_cmp x e.0) && (b && is_sorted node_cmp es)) (sym q)
      where
        none : (a : Bool) → a && false ≡ false
        none true = refl
        none false = refl
    by false b p q =
        ap (λ a. (a && below_all node_cmp x es) && (below_all node_cmp e.0 es && is_sorted node_cmp es)) p ∙ ap (λ a. a && (below_all node_cmp e.0 es && is_sorted node_cmp es)) (sym p)

-- nodes rise where each stands behind the one before it
pub chain_rises : (e : Node × Value) (es : List (Node × Value)) → is_chain e.0 es ≡ is_sorted node_cmp (e ∷ es)
chain_rises e es = sym (chained e.0 es)
