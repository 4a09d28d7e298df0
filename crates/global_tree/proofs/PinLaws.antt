-- How often a place is pinned after one pin more or less.
use Rattle.std.proofs.Common.{◌≡◌, ℕ, ◌+◌, ◌-◌, ◌<◌, Bool, true, false, cond, Option, Some, unwrap_or, refl, sym, ap, ◌∙◌, arith}
use Rattle.std.specs.Ordering.{eq_by_cmp, is_eq}
use Rattle.std.proofs.lemmas.Cmp.{tied_itself}
use Rattle.std.specs.FinMap.{get, empty, get-empty}
use Rattle.obj_kinds.specs.declared.node.Node.{Node}
use Rattle.obj_kinds.specs.Order.{node_cmp}
use Rattle.obj_kinds.proofs.OrderLemmas.{node_total, node_exact}
use Rattle.global_tree.specs.Maps.{placed}
use Rattle.global_tree.specs.Contents.{Pins, pins_of, counted, pinned, unpinned}
use Rattle.global_tree.proofs.MapLaws.{get-placed, one_key}
use Rattle.global_tree.proofs.Seen.{counted_back}

-- 1 where the nodes are the same
abbrev pub one_at : Node → Node → ℕ
one_at n m = cond (eq_by_cmp node_cmp m n) 1 0

placed_pins : (pins : Pins) (n : Node) (v : Option ℕ) (m : Node) → pins_of (placed pins n v) m ≡ cond (eq_by_cmp node_cmp m n) (unwrap_or v 0) (pins_of pins m)
unfolding pins_of
placed_pins pins n v m = ap (λ o. unwrap_or o 0) (get-placed node_total pins n v m) ∙ choose (eq_by_cmp node_cmp m n) v (get pins m)
  where
    choose : (b : Bool) (v o : Option ℕ) → unwrap_or (cond b v o) 0 ≡ cond b (unwrap_or v 0) (unwrap_or o 0)
    choose true v o = refl
    choose false v o = refl

pub pins_of-empty : (m : Node) → pins_of empty m ≡ 0
unfolding pins_of
pins_of-empty m = ap (λ o. unwrap_or o 0) (get-empty node_cmp m)

pub pins_of-pinned : (pins : Pins) (n m : Node) → pins_of (pinned pins n) m ≡ pins_of pins m + one_at n m
unfolding pinned
pins_of-pinned pins n m = placed_pins pins n (Some (pins_of pins n + 1)) m ∙ by (eq_by_cmp node_cmp m n) refl
  where
    by : (b : Bool) → eq_by_cmp node_cmp m n ≡ b → cond b (pins_of pins n + 1) (pins_of pins m) ≡ pins_of pins m + cond b 1 0
    by true g = ap (λ k. pins_of pins k + 1) (sym (one_key node_exact m n g))
    by false g = omega arith

pub pins_of-unpinned : (pins : Pins) (n m : Node) → pins_of (unpinned pins n) m ≡ pins_of pins m - one_at n m
unfolding unpinned
pins_of-unpinned pins n m = placed_pins pins n (counted (pins_of pins n - 1)) m ∙ by (eq_by_cmp node_cmp m n) refl
  where
    by : (b : Bool) → eq_by_cmp node_cmp m n ≡ b → cond b (unwrap_or (counted (pins_of pins n - 1)) 0) (pins_of pins m) ≡ pins_of pins m - cond b 1 0
    by true g = counted_back (pins_of pins n - 1) ∙ ap (λ k. pins_of pins k - 1) (sym (one_key node_exact m n g))
    by false g = omega arith

-- ---- of one place

here : (n : Node) → one_at n n ≡ 1
here n = ap (λ r. cond {A = ℕ} (is_eq r) 1 0) (tied_itself node_total n)

-- what was pinned has a pin
pub pinned_there : (p q : Pins) (n m : Node) → q ≡ pinned p n → m ≡ n → 0 < pins_of q m
pinned_there p q n m e same =
    let is : pins_of q m ≡ pins_of p n + one_at n n = (λ i. pins_of (e i) (same i)) ∙ pins_of-pinned p n n in
    omega (arith, here n)

less_one : (a b : ℕ) → (a + b) - b ≡ a
less_one a b = omega arith

-- a pin that is given back leaves the others
pub unpinned_again : (p q r : Pins) (n m : Node) → q ≡ pinned p n → m ≡ n → r ≡ unpinned q m → (k : Node) → pins_of r k ≡ pins_of p k
unpinned_again p q r n m e same back k =
    ap (λ x. pins_of x k) back
    ∙ (λ i. pins_of (unpinned (e i) (same i)) k)
    ∙ pins_of-unpinned (pinned p n) n k
    ∙ ap (λ x. x - one_at n k) (pins_of-pinned p n k)
    ∙ less_one (pins_of p k) (one_at n k)
