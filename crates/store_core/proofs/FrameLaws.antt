-- What an operation of one process leaves to the others.
use Rattle.std.proofs.Common.{◌≡◌, ◌≢◌, ℕ, zero, suc, Bool, true, false, cond, not, ◌==◌, [], Option, Some, None, unwrap_or, refl, ap, ◌∙◌, nat_cmp}
use Rattle.std.proofs.lemmas.Cmp.{nat_cmp_total}
use Rattle.std.specs.Ordering.{eq_by_cmp}
use Rattle.std.specs.FinMap.{get, get-empty, get-insert, nat_cmp-IsAntisymmetric}
use Rattle.obj_kinds.specs.declared.node.Node.{Node}
use Rattle.obj_kinds.specs.declared.op.Pid.{Pid}
use Rattle.obj_kinds.specs.declared.op.Op.{Op}
use Rattle.obj_kinds.specs.declared.op.Op.TheVariants.{Lock, Unlock, UnlockAll, Commit, RollbackOne, RollbackAll, End}
use Rattle.global_tree.specs.Contents.{Globals}
use Rattle.global_tree.proofs.MapLaws.{get-placed, one_key}
use Rattle.lock_table.specs.Holds.{Holds, hold, all_back, all_given_back, without_end, tran_ended, all_dropped}
use Rattle.lock_table.specs.Calls.{IsFree}
use Rattle.lock_table.proofs.FirstLaws.{none_is}
use Rattle.lock_table.proofs.HoldLaws.{kept_free, asked_free, changed_within, given_back_within, dropped_within}
use Rattle.tran_log.specs.Levels.{Levels}
use Rattle.store_core.specs.Machine.{State, Sight, seen, turn, after, live_with, levels_at, is_open, all_live, opening}
use Rattle.store_core.specs.Cleared.{cleared, cleared_upto, outermost}

pub others_stay : (s : State) (p : Pid) (op : Op) (q : ℕ) → q ≢ p.0 → levels_at (after s p op) q ≡ levels_at s q
unfolding after
others_stay s p op q ne =
    ap (λ o. unwrap_or o []) (get-placed nat_cmp_total s.levels p.0 (live_with op (turn (seen s p) p op).levels) q ∙ by (eq_by_cmp nat_cmp q p.0) refl)
  where
    by : (b : Bool) → eq_by_cmp nat_cmp q p.0 ≡ b → cond b (live_with op (turn (seen s p) p op).levels) (get s.levels q) ≡ get s.levels q
    by true h = absurd (ne (one_key nat_cmp-IsAntisymmetric q p.0 h))
    by false h = refl

left_free : (b : Bool) (p : Pid) (hs : Holds) → IsFree hs → IsFree (cond b (tran_ended hs p) hs)
unfolding tran_ended
left_free true p hs free = kept_free _ hs (changed_within (without_end p) hs) free
left_free false p hs free = free

turn_free : (s : Sight) (p : Pid) (op : Op) → IsFree s.holds → IsFree (turn s p op).holds
unfolding turn all_given_back all_dropped
turn_free s p (Lock n m o k) free = asked_free s.holds (hold p n m o) k (none_is s.holds (hold p n m o)) free
turn_free s p (Unlock n m o) free = kept_free _ s.holds (given_back_within s.holds (hold p n m o) (is_open s.levels)) free
turn_free s p (UnlockAll o) free = kept_free _ s.holds (changed_within (all_back p o (is_open s.levels)) s.holds) free
turn_free s p Commit free = left_free _ p s.holds free
turn_free s p RollbackOne free = left_free _ p s.holds free
turn_free s p RollbackAll free = left_free _ p s.holds free
turn_free s p End free = kept_free _ s.holds (dropped_within s.holds (λ h. not (h.pid.0 == p.0))) free
turn_free s p _ free = free

pub stays_free : (s : State) (p : Pid) (op : Op) → IsFree s.holds → IsFree (after s p op).holds
unfolding after
stays_free s p op free = turn_free (seen s p) p op free

upto_same : (s : State) (n : Node) → ((q : ℕ) → outermost (levels_at s q) n ≡ None) → (p : ℕ) → cleared_upto s p n ≡ get s.globals n
upto_same s n none zero = refl
upto_same s n none (suc p) = ap (λ o. unwrap_or o (cleared_upto s p n)) (none (suc p)) ∙ upto_same s n none p

pub cleared_same : (s : State) (n : Node) → ((q : ℕ) → outermost (levels_at s q) n ≡ None) → cleared s n ≡ get s.globals n
unfolding cleared
cleared_same s n none = upto_same s n none s.pids

pub no_levels : (k q : ℕ) → unwrap_or (get (all_live k) q) [] ≡ []
no_levels zero q = ap (λ o. unwrap_or o []) (get-empty {X = Levels} nat_cmp q)
no_levels (suc k) q = ap (λ o. unwrap_or o []) (get-insert nat_cmp_total (all_live k) (suc k) [] q) ∙ by (eq_by_cmp nat_cmp q (suc k)) (get (all_live k) q) (no_levels k q)
  where
    by : (b : Bool) (o : Option Levels) → unwrap_or o [] ≡ [] → unwrap_or (cond b (Some []) o) [] ≡ []
    by true o h = refl
    by false o h = h

pub cleared_opening : (pids : ℕ) (g : Globals) (n : Node) → cleared (opening pids g) n ≡ get g n
cleared_opening pids g n = cleared_same (opening pids g) n (λ q. ap (λ ls. outermost ls n) (no_levels pids q))
