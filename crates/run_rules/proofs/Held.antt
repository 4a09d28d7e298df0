-- Which rows stay held after an operation.
use Rattle.std.proofs.Common.{◌≡◌, ◌≢◌, ℕ, Bool, true, false, ◌⊎◌, inl, inr, [], ◌∷◌, Option, Some, None, unwrap_or, is_some, refl, sym, ap, subst, ◌∙◌, cond, arith, nat_cmp}
use Rattle.std.proofs.lemmas.Bool.Decides.{nat_tests}
use Rattle.std.proofs.lemmas.Cmp.{nat_cmp_total, tied_itself}
use Rattle.std.specs.Ordering.{eq_by_cmp, is_eq}
use Rattle.std.specs.FinMap.{get}
use Rattle.obj_kinds.specs.declared.node.Node.{Node}
use Rattle.obj_kinds.specs.declared.op.Pid.{Pid}
use Rattle.obj_kinds.specs.declared.op.Op.{Op}
use Rattle.obj_kinds.specs.declared.op.Op.TheVariants.{End}
use Rattle.schema_kinds.specs.declared.key.Key.{Key}
use Rattle.global_tree.proofs.MapLaws.{get-placed}
use Rattle.lock_table.specs.Holds.{Holds}
use Rattle.tran_log.specs.Levels.{Levels}
use Rattle.store_core.specs.Machine.{State, Sight, sight, seen, is_open, is_live, levels_at, live_with, turn, after}
use Rattle.store_core.specs.Guard.{ends}
use Rattle.store_core.proofs.GuardLaws.{end_stays}
use Rattle.store_core.proofs.FrameLaws.{others_stay}
use Rattle.object_runs.specs.Invariant.{HoldsRow}

pub same_or : (p q : ℕ) → (p ≡ q) ⊎ (p ≢ q)
same_or p q = grind (arith, nat_tests)

pub one_pid : (p q : Pid) → p.0 ≡ q.0 → p ≡ q
one_pid p q e = λ i. record { 0 = e i }

itself : (p : ℕ) → eq_by_cmp nat_cmp p p ≡ true
itself p = ap is_eq (tied_itself nat_cmp_total p)

live_levels : (s : State) (p : Pid) (op : Op) → unwrap_or (live_with op (turn (seen s p) p op).levels) [] ≡ (turn (seen s p) p op).levels
unfolding turn
live_levels s p End = refl
live_levels s p _ = refl

pub own_levels : (s : State) (p : Pid) (op : Op) → levels_at (after s p op) p.0 ≡ (turn (seen s p) p op).levels
unfolding after
own_levels s p op =
    ap (λ o. unwrap_or o []) (get-placed nat_cmp_total s.levels p.0 (live_with op (turn (seen s p) p op).levels) p.0
    ∙ ap (λ b. cond b (live_with op (turn (seen s p) p op).levels) (get s.levels p.0)) (itself p.0))
    ∙ live_levels s p op

ended_levels : (s : State) (p : Pid) → (turn (seen s p) p End).levels ≡ []
unfolding turn
ended_levels s p = refl

-- what the process sees after its turn
pub seen_after : (s : State) (p : Pid) (op : Op) → turn (seen s p) p op ≡ seen (after s p op) p
unfolding after
seen_after s p op = let x = turn (seen s p) p op in ap (λ ls. sight x.globals x.holds ls) (sym (own_levels s p op))

pub live_other : (s : State) (p : Pid) (op : Op) (q : ℕ) → q ≢ p.0 → get (after s p op).levels q ≡ get s.levels q
unfolding after
live_other s p op q ne = get-placed nat_cmp_total s.levels p.0 (live_with op (turn (seen s p) p op).levels) q ∙ ap (λ b. cond b (live_with op (turn (seen s p) p op).levels) (get s.levels q)) (differ q p.0 ne)
  where
    differ : (q p : ℕ) → q ≢ p → eq_by_cmp nat_cmp q p ≡ false
    differ q p ne = grind (arith, nat_tests)

pub live_own : (s : State) (p : Pid) (op : Op) → op ≢ End → is_live (after s p op) p ≡ true
unfolding after
live_own s p op ne =
    ap is_some (get-placed nat_cmp_total s.levels p.0 (live_with op (turn (seen s p) p op).levels) p.0
    ∙ ap (λ b. cond b (live_with op (turn (seen s p) p op).levels) (get s.levels p.0)) (itself p.0))
    ∙ by op ne
  where
    by : (op : Op) → op ≢ End → is_some (live_with op (turn (seen s p) p op).levels) ≡ true
    by End ne = absurd (ne refl)
    by _ ne = refl

not_ended : (op : Op) (ls later : Levels) → is_open later ≡ true → op ≢ End → ends op ls later ≡ false
not_ended End ls later e ne = absurd (ne refl)
not_ended _ [] later e ne = refl
not_ended _ (l ∷ ls) [] e ne = cc
not_ended _ (l ∷ ls) (k ∷ later) e ne = refl

-- with a level left the holds to the end stay
pub open_stays : (s : State) (p : Pid) (op : Op) → is_open (levels_at (after s p op) p.0) ≡ true → ends op (levels_at s p.0) (levels_at (after s p op) p.0) ≡ false
open_stays s p op e = not_ended op _ _ e (λ is. absurd (cc (sym (ap (λ y. is_open (levels_at (after s p y) p.0)) is) ∙ e, ap is_open (own_levels s p End ∙ ended_levels s p))))

pub row_stays : (s : State) (p : Pid) (op : Op) (q : Pid) (k : Key) → HoldsRow s.holds q k → (q.0 ≡ p.0 → is_open (levels_at (after s p op) p.0) ≡ true) → HoldsRow (after s p op).holds q k
row_stays s p op q k h own = (h.0, end_stays s p op _ h.1 (λ same. open_stays s p op (own same)))
