-- An operation whose reply has a text changes nothing.
use Rattle.std.proofs.Common.{◌≡◌, ℕ, ℤ, ◌+◌, Bool, true, false, cond, nat_lt, length, pos, [], ◌∷◌, is_some, Option, Some, None, unwrap_or, refl, sym, ap, ◌∙◌, nat_cmp}
use Rattle.std.proofs.lemmas.Cmp.{nat_cmp_total}
use Rattle.std.specs.Ordering.{eq_by_cmp}
use Rattle.std.specs.FinMap.{get, nat_cmp-IsAntisymmetric}
use Rattle.obj_kinds.specs.declared.op.Pid.{Pid}
use Rattle.obj_kinds.specs.declared.op.Keep.{Keep}
use Rattle.obj_kinds.specs.declared.op.Op.{Op}
use Rattle.obj_kinds.specs.declared.op.Op.TheVariants.{Get, Defined, Order, Set, Kill, Incr, Lock, Unlock, UnlockAll, Begin, Commit, RollbackOne, RollbackAll, End}
use Rattle.obj_kinds.specs.declared.op.Reply.TheVariants.{Done, NotHeld, Number, TooDeep}
use Rattle.global_tree.specs.Contents.{Globals}
use Rattle.global_tree.specs.Maps.{placed}
use Rattle.global_tree.proofs.MapLaws.{get-placed, one_key}
use Rattle.lock_table.specs.declared.hold.Hold.{Hold}
use Rattle.lock_table.specs.Holds.{Holds, hold, kept, is_counted, granted}
use Rattle.lock_table.specs.Conflict.{asked, ask_reply, refusing, told}
use Rattle.tran_log.specs.Levels.{Levels}
use Rattle.store_core.specs.Machine.{State, Sight, sight, seen, turn, after, answer, reply, live_with, levels_at, is_live, number_or, left_reply}
use Rattle.store_core.specs.Numbers.{incremented}
use Rattle.obj_kinds.specs.Replies.{has_text}
use Rattle.store_core.specs.Tied.{Logs, IsTied}

held_still : (hs : Holds) (h : Hold) (k : Keep) → has_text (ask_reply hs h) ≡ true → asked hs h k ≡ hs
held_still hs h k = by (refusing hs h)
  where
    by : (o : Option Hold) → has_text (told o) ≡ true → cond (is_some o) hs (granted hs h k) ≡ hs
    by None e = absurd cc
    by (Some x) e = refl

no_number : (o : Option ℤ) → has_text (number_or o) ≡ false
no_number None = refl
no_number (Some z) = refl

no_release : (b : Bool) → has_text (cond b Done NotHeld) ≡ false
no_release true = refl
no_release false = refl

no_begun : (b : Bool) (z : ℤ) → has_text (cond b (Number z) TooDeep) ≡ false
no_begun true z = refl
no_begun false z = refl

no_left : (ls : Levels) → has_text (left_reply ls) ≡ false
no_left [] = refl
no_left (l ∷ ls) = refl

neither : {X : Type 0} (b : Bool) → b ≡ false → b ≡ true → X
neither b e h = absurd cc

quiet_turn : (s : Sight) (p : Pid) (op : Op) → has_text (answer s p op) ≡ true → turn s p op ≡ s
unfolding turn answer
quiet_turn s p (Get n) h = refl
quiet_turn s p (Defined n) h = refl
quiet_turn s p (Order n a) h = refl
quiet_turn s p (Set n v) h = absurd cc
quiet_turn s p (Kill n) h = absurd cc
quiet_turn s p (Incr n k) h = neither _ (no_number (incremented (get s.globals n) k)) h
quiet_turn s p (Lock n m o k) h = ap (λ x. sight s.globals x s.levels) (held_still s.holds (hold p n m o) k h)
quiet_turn s p (Unlock n m o) h = neither _ (no_release (is_counted (kept s.holds (hold p n m o)))) h
quiet_turn s p (UnlockAll o) h = absurd cc
quiet_turn s p Begin h = neither _ (no_begun (nat_lt (length s.levels) 255) (pos (length s.levels + 1))) h
quiet_turn s p Commit h = neither _ (no_left s.levels) h
quiet_turn s p RollbackOne h = neither _ (no_left s.levels) h
quiet_turn s p RollbackAll h = absurd cc
quiet_turn s p End h = absurd cc

quiet_live : (s : Sight) (p : Pid) (op : Op) (ls : Levels) → has_text (answer s p op) ≡ true → live_with op ls ≡ Some ls
unfolding answer
quiet_live s p End ls h = absurd cc
quiet_live s p _ ls h = refl

-- so what stands for the state after it stands for the one before it
pub quiet_tied : (s : State) (p : Pid) (op : Op) (g : Globals) (hs : Holds) (logs : Logs) → is_live s p ≡ true → has_text (reply s p op) ≡ true → IsTied (after s p op) g hs logs → IsTied s g hs logs
unfolding after reply
quiet_tied s p op g hs logs live text is =
    let still : turn (seen s p) p op ≡ seen s p = quiet_turn (seen s p) p op text in
    record {
      same_globals = sym (ap (λ (x : Sight). x.globals) still) ∙ is.same_globals;
      same_holds = sym (ap (λ (x : Sight). x.holds) still) ∙ is.same_holds;
      same_levels = λ i. sym (by (i + 1) (eq_by_cmp nat_cmp (i + 1) p.0) (get s.levels p.0) refl refl live (ap (λ (x : Sight). x.levels) still)) ∙ is.same_levels i;
    }
  where
    by : (q : ℕ) (b : Bool) (o : Option Levels) → eq_by_cmp nat_cmp q p.0 ≡ b → get s.levels p.0 ≡ o → is_some o ≡ true → (turn (seen s p) p op).levels ≡ levels_at s p.0
        → get (placed s.levels p.0 (live_with op (turn (seen s p) p op).levels)) q ≡ get s.levels q
    by q false o e is live still = get-placed nat_cmp_total s.levels p.0 _ q ∙ ap (λ b. cond b (live_with op (turn (seen s p) p op).levels) (get s.levels q)) e
    by q true None e is live still = absurd cc
    by q true (Some ls) e is live still =
        get-placed nat_cmp_total s.levels p.0 _ q
        ∙ ap (λ b. cond b (live_with op (turn (seen s p) p op).levels) (get s.levels q)) e
        ∙ quiet_live (seen s p) p op _ text
        ∙ ap Some (still ∙ ap (λ o. unwrap_or o []) is)
        ∙ sym (ap (get s.levels) (one_key nat_cmp-IsAntisymmetric q p.0 e) ∙ is)
