-- How many pins a process owes, and what a set or a kill adds.
use Rattle.std.proofs.Common.{◌≡◌, ℕ, ◌+◌, ◌≤◌, Bool, true, false, cond, ◌&&◌, nat_lt, List, [], ◌∷◌, length, filter, Option, None, is_some, refl, sym, ap, ◌∙◌, arith}
use Rattle.std.specs.Ordering.{eq_by_cmp}
use Rattle.std.specs.FinMap.{get, entries, empty, contains_key, get-entries, get-empty, entries_sorted}
use Rattle.std.specs.FinMap.Entries.{find-where_key, is_sorted-where_key}
use Rattle.obj_kinds.specs.declared.node.Node.{Node}
use Rattle.obj_kinds.specs.declared.value.Value.{Value}
use Rattle.obj_kinds.specs.Order.{node_cmp, covers}
use Rattle.obj_kinds.proofs.OrderLemmas.{node_exact}
use Rattle.global_tree.specs.Contents.{Globals, Pins, pins_of, pinned, taken_at}
use Rattle.global_tree.proofs.PinLaws.{pins_of-pinned}
use Rattle.obj_kinds.proofs.Sorted.{stays}
use Rattle.tran_log.specs.Levels.{Olds, Levels, as_olds, begun, has, kept_by, times}
use Rattle.tran_log.proofs.LevelLaws.{times_rising}

-- each level keeps a node once
pub kept_few : (ls : Levels) (n : Node) → kept_by ls n ≤ length ls
kept_few [] n = omega arith
kept_few (l ∷ ls) n = by (contains_key l n) (kept_few ls n)
  where
    by : (b : Bool) → kept_by ls n ≤ length ls → cond b 1 0 + kept_by ls n ≤ length (l ∷ ls)
    by true le = omega arith
    by false le = omega arith

-- a new level keeps nothing
pub kept_begun : (ls : Levels) (n : Node) → kept_by (begun ls) n ≡ kept_by ls n
kept_begun ls n = by (nat_lt (length ls) 255)
  where
    none : has empty n ≡ 0
    none = ap (λ o. cond {A = ℕ} (is_some o) 1 0) (get-empty {X = Option Value} node_cmp n)

    by : (b : Bool) → kept_by (cond b (empty ∷ ls) ls) n ≡ kept_by ls n
    by true = omega (arith, none)
    by false = refl

times_as_olds : (es : List (Node × Value)) (n : Node) → times (as_olds es) n ≡ times es n
times_as_olds [] n = refl
times_as_olds (e ∷ es) n = ap (λ k. cond (eq_by_cmp node_cmp n e.0) 1 0 + k) (times_as_olds es n)

-- what a kill takes away stands once where it is taken
pub times_taken : (g : Globals) (n m : Node) → times (as_olds (filter (λ e. covers n e.0) (entries g))) m ≡ taken_at g n m
unfolding taken_at
times_taken g n m =
    times_as_olds (filter (λ e. covers n e.0) (entries g)) m
    ∙ times_rising (filter (λ e. covers n e.0) (entries g)) (stays _ (is_sorted-where_key node_cmp (covers n) (entries g) (entries_sorted g))) m
    ∙ ap (λ o. cond (is_some o) 1 0) (find-where_key node_cmp (covers n) m (λ x e. ap (covers n) (sym (node_exact m x e))) (entries g) ∙ ap (λ o. cond (covers n m) o None) (sym (get-entries g m)))
    ∙ by (covers n m) (get g m)
  where
    by : (b : Bool) (o : Option Value) → cond {A = ℕ} (is_some (cond b o None)) 1 0 ≡ cond {A = ℕ} (b && is_some o) 1 0
    by true o = refl
    by false o = refl

-- what a set pins stands once
pub times_set : (p q : Pins) (n place : Node) (before : Option Value) (olds : Olds) (m : Node) → q ≡ pinned p n → place ≡ n → olds ≡ (place, before) ∷ [] → pins_of q m ≡ pins_of p m + times olds m
times_set p q n place before olds m e same is =
    ap (λ x. pins_of x m) e ∙ pins_of-pinned p n m
    ∙ λ i. pins_of p m + (sym (ap (λ x. times x m) is ∙ ap (λ (k : Node). cond {A = ℕ} (eq_by_cmp node_cmp m k) 1 0 + 0) same ∙ plain (cond (eq_by_cmp node_cmp m n) 1 0)) i)
  where
    plain : (k : ℕ) → k + 0 ≡ k
    plain k = omega arith
