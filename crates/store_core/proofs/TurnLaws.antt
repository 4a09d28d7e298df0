-- What a turn of one process leaves as it was.
use Rattle.std.proofs.Common.{◌≡◌, ◌≢◌, ℕ, ◌+◌, ◌-◌, ◌*◌, ◌<◌, ◌≤◌, ◌^◌, Bool, true, false, cond, nat_lt, List, [], ◌∷◌, length, get_or, set, zero, suc, Option, Some, None, Result, Ok, Err, OnOk, OnErr, unwrap_or, refl, sym, ap, ◌∙◌, subst, arith, nat_cmp}
use Rattle.std.proofs.lemmas.Bool.Decides.{nat_tests}
use Rattle.std.proofs.lemmas.List.{get_or-set_same, get_or-set_other, length-set}
use Rattle.std.proofs.lemmas.List.Sums.{sum_by-set, sum_by-cons}
use Rattle.std.proofs.lemmas.Cmp.{nat_cmp_total, tied_itself}
use Rattle.std.specs.Ordering.{eq_by_cmp, is_eq}
use Rattle.std.specs.FinMap.{get, empty, nat_cmp-IsAntisymmetric}
use Rattle.obj_kinds.specs.declared.node.Node.{Node}
use Rattle.obj_kinds.specs.declared.op.Pid.{Pid}
use Rattle.obj_kinds.specs.declared.op.Op.{Op}
use Rattle.obj_kinds.specs.declared.op.Op.TheVariants.{Set, Kill, Incr, Begin, Commit, RollbackOne, RollbackAll, End}
use Rattle.global_tree.specs.Contents.{Globals, Pins, pins_of}
use Rattle.global_tree.specs.Maps.{placed}
use Rattle.global_tree.proofs.MapLaws.{get-placed, one_key}
use Rattle.lock_table.specs.Holds.{Holds, all_dropped}
use Rattle.tran_log.specs.Levels.{Olds, Levels, begun, note_top, committed, rolled_back, all_undone, kept_by}
use Rattle.tran_log.proofs.OwedLaws.{kept_few}
use Rattle.store_core.specs.Machine.{State, Sight, sight, seen, turn, after, answer, reply, live_with}
use Rattle.store_core.specs.Tied.{Logs, levels_in, owed, too_many, IsOwed, IsTied}

-- A PROCESS STAYS WITHIN 255 LEVELS

low_note : (ls : Levels) (es : Olds) → length ls ≤ 255 → length (note_top ls es) ≤ 255
low_note [] es h = h
low_note (l ∷ ls) es h = h

low_begun : (ls : Levels) → length ls ≤ 255 → length (begun ls) ≤ 255
low_begun ls h = by (nat_lt (length ls) 255) refl
  where
    by : (b : Bool) → nat_lt (length ls) 255 ≡ b → length (cond b (empty ∷ ls) ls) ≤ 255
    by true e = grind (arith, nat_tests)
    by false e = h

low_committed : (ls : Levels) → length ls ≤ 255 → length (committed ls) ≤ 255
low_committed [] h = h
low_committed (l ∷ []) h = omega arith
low_committed (l ∷ k ∷ ls) h = omega arith

low_rolled : (ls : Levels) → length ls ≤ 255 → length (rolled_back ls) ≤ 255
low_rolled [] h = h
low_rolled (l ∷ ls) h = omega arith

pub low_turn : (s : Sight) (p : Pid) (op : Op) → length s.levels ≤ 255 → length (turn s p op).levels ≤ 255
unfolding turn
low_turn s p (Set n v) h = low_note s.levels _ h
low_turn s p (Kill n) h = low_note s.levels _ h
low_turn s p (Incr n k) h = h
low_turn s p Begin h = low_begun s.levels h
low_turn s p Commit h = low_committed s.levels h
low_turn s p RollbackOne h = low_rolled s.levels h
low_turn s p RollbackAll h = omega arith
low_turn s p End h = omega arith
low_turn s p _ h = h

-- THE PINS

pub owed_few : (logs : Logs) (n : Node) → owed logs n ≤ length logs * 255 + too_many logs
owed_few [] n = omega arith
owed_few (o ∷ logs) n =
    let rest = owed_few logs n in
    let a = sum_by-cons (λ o. kept_by (levels_in o) n) o logs in
    let b = sum_by-cons (λ o. length (levels_in o) - 255) o logs in
    let c = kept_few (levels_in o) n in
    omega arith

pub pins_few : (pins : Pins) (logs : Logs) → IsOwed pins logs → (n : Node) → pins_of pins n + 1 < 2 ^ 64
pins_few pins logs is n = let h = owed_few logs n in let p = is.pinned n in let l = is.low in let f = is.few in omega arith

pub own_low : (pins : Pins) (logs : Logs) (i : ℕ) (ls : Levels) → IsOwed pins logs → i < length logs → get_or logs i None ≡ Some ls → length ls ≤ 255
own_low pins logs i ls is lt here =
    let h = sum_by-set (λ o. length (levels_in o) - 255) logs i None None lt in
    let e = ap (λ o. length (levels_in o) - 255) here in
    let l = is.low in
    omega arith

pub own_kept : (pins : Pins) (logs : Logs) (i : ℕ) (ls : Levels) → IsOwed pins logs → i < length logs → get_or logs i None ≡ Some ls → (n : Node) → kept_by ls n ≤ pins_of pins n
own_kept pins logs i ls is lt here n =
    let h = sum_by-set (λ o. kept_by (levels_in o) n) logs i None None lt in
    let e = ap (λ o. kept_by (levels_in o) n) here in
    let p = is.pinned n in
    omega arith

pub still_owed : (pins pins' : Pins) (logs : Logs) (i : ℕ) (ls : Levels) (o : Option Levels) → IsOwed pins logs → i < length logs → get_or logs i None ≡ Some ls
    → length (levels_in o) ≤ 255 → ((n : Node) → pins_of pins' n + kept_by ls n ≡ pins_of pins n + kept_by (levels_in o) n) → IsOwed pins' (set logs i o)
still_owed pins pins' logs i ls o is lt here low moved = record {
  pinned = λ n.
      let h = sum_by-set (λ o. kept_by (levels_in o) n) logs i o None lt in
      let e = ap (λ o. kept_by (levels_in o) n) here in
      let p = is.pinned n in
      let m = moved n in
      omega arith;
  low =
      let h = sum_by-set (λ o. length (levels_in o) - 255) logs i o None lt in
      let l = is.low in
      omega arith;
  few = let f = is.few in let h = length-set logs i o in omega arith;
}

-- THE LEVELS OF ALL

pub seen_is : (s : State) (p : Pid) (g : Globals) (hs : Holds) (logs : Logs) (i : ℕ) (ls : Levels) → IsTied s g hs logs → p.0 ≡ i + 1 → get_or logs i None ≡ Some ls → seen s p ≡ sight g hs ls
seen_is s p g hs logs i ls is e here =
    ap (λ x. sight x s.holds (unwrap_or (get s.levels p.0) [])) is.same_globals
    ∙ ap (λ x. sight g x (unwrap_or (get s.levels p.0) [])) is.same_holds
    ∙ ap (λ o. sight g hs (unwrap_or o [])) (ap (get s.levels) e ∙ is.same_levels i ∙ here)

pub tied_after : (s : State) (p : Pid) (op : Op) (g g' : Globals) (hs hs' : Holds) (logs : Logs) (i : ℕ) (ls ls' : Levels)
    → IsTied s g hs logs → p.0 ≡ i + 1 → i < length logs → get_or logs i None ≡ Some ls
    → sight g' hs' ls' ≡ turn (sight g hs ls) p op
    → IsTied (after s p op) g' hs' (set logs i (live_with op ls'))
unfolding after
tied_after s p op g g' hs hs' logs i ls ls' is e lt here turned =
    let t : turn (seen s p) p op ≡ sight g' hs' ls' = ap (λ x. turn x p op) (seen_is s p g hs logs i ls is e here) ∙ sym turned in
    record {
      same_globals = ap (λ (x : Sight). x.globals) t;
      same_holds = ap (λ (x : Sight). x.holds) t;
      same_levels = λ j.
          ap (λ (x : Sight). get (placed s.levels p.0 (live_with op x.levels)) (j + 1)) t
          ∙ get-placed nat_cmp_total s.levels p.0 (live_with op ls') (j + 1)
          ∙ by j (eq_by_cmp nat_cmp (j + 1) p.0) refl;
    }
  where
    other : (j : ℕ) → eq_by_cmp nat_cmp (j + 1) p.0 ≡ false → j ≢ i
    other j h k = let tie = ap (λ x. eq_by_cmp nat_cmp (j + 1) x) (e ∙ ap (λ x. x + 1) (sym k)) ∙ ap is_eq (tied_itself nat_cmp_total (j + 1)) in cc

    by : (j : ℕ) (b : Bool) → eq_by_cmp nat_cmp (j + 1) p.0 ≡ b → cond b (live_with op ls') (get s.levels (j + 1)) ≡ get_or (set logs i (live_with op ls')) j None
    by j true h =
        let same : j + 1 ≡ p.0 = one_key nat_cmp-IsAntisymmetric (j + 1) p.0 h in
        let k : j ≡ i = omega (arith, same, e) in
        sym (ap (λ x. get_or (set logs i (live_with op ls')) x None) k ∙ get_or-set_same logs i (live_with op ls') None lt)
    by j false h = is.same_levels j ∙ sym (get_or-set_other logs i j (live_with op ls') None (other j h))

pub live_other : (op : Op) (ls : Levels) → op ≢ End → live_with op ls ≡ Some ls
live_other End ls ne = absurd (ne refl)
live_other _ ls ne = refl

-- WHAT THE CALLS SHOW

-- within the list the default doesn't count
get_at : {X : Type 0} (xs : List X) (i : ℕ) (d e : X) → i < length xs → get_or xs i d ≡ get_or xs i e
get_at [] i d e lt = absurd (omega (arith, lt))
get_at (x ∷ xs) zero d e lt = refl
get_at (x ∷ xs) (suc i) d e lt = get_at xs i d e (omega (arith, lt))

pub own_log : (logs : Logs) (i : ℕ) (o : Option Levels) (ls : Levels) → i < length logs → o ≡ get_or logs i o → o ≡ Some ls → get_or logs i None ≡ Some ls
own_log logs i o ls lt value is = get_at logs i None o lt ∙ sym value ∙ is

pub told_is : (s : State) (p : Pid) (op : Op) (g : Globals) (hs : Holds) (logs : Logs) (i : ℕ) (ls : Levels) → IsTied s g hs logs → p.0 ≡ i + 1 → get_or logs i None ≡ Some ls → reply s p op ≡ answer (sight g hs ls) p op
unfolding reply
told_is s p op g hs logs i ls is e here = ap (λ x. answer x p op) (seen_is s p g hs logs i ls is e here)

pub low_either : {A E : Type 0} (r : Result A E) (s t : Sight) (p : Pid) (op : Op) → OnOk r (t ≡ turn s p op) → OnErr r (t ≡ s) → length s.levels ≤ 255 → length t.levels ≤ 255
low_either (Ok a) s t p op done same h = subst (λ (x : Sight). length x.levels ≤ 255) (sym done) (low_turn s p op h)
low_either (Err e) s t p op done same h = subst (λ (x : Sight). length x.levels ≤ 255) (sym same) h

pub turn_end : (p : Pid) (g g' : Globals) (hs hs' : Holds) (ls : Levels) → g' ≡ all_undone g ls → hs' ≡ all_dropped hs p → sight g' hs' [] ≡ turn (sight g hs ls) p End
unfolding turn
turn_end p g g' hs hs' ls e f = ap (λ x. sight x hs' []) e ∙ ap (λ x. sight (all_undone g ls) x []) f
