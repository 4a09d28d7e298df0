-- Any hold of a row keeps other processes from holding it exclusively.
use Rattle.std.proofs.Common.{◌≡◌, ◌≢◌, ℕ, suc, ◌+◌, Bool, true, false, not, ◌&&◌, ◌||◌, cond, ◌==◌, Option, Some, None, is_some, unwrap_or, nat_lt, refl, sym, ap, ◌∙◌, subst, arith}
use Rattle.std.proofs.lemmas.Bool.Decides.{nat_tests}
use Rattle.std.specs.Ordering.{eq_by_cmp}
use Rattle.std.specs.FinMap.{get, contains_key}
use Rattle.obj_kinds.specs.declared.node.Node.{Node}
use Rattle.obj_kinds.specs.declared.op.Pid.{Pid}
use Rattle.obj_kinds.specs.declared.op.Op.{Op}
use Rattle.obj_kinds.specs.declared.op.Op.TheVariants.{Get, Lock, Unlock, UnlockAll, Commit, RollbackOne, RollbackAll, End}
use Rattle.obj_kinds.specs.declared.op.Mode.{Mode}
use Rattle.obj_kinds.specs.declared.op.Mode.TheVariants.{Exclusive}
use Rattle.obj_kinds.specs.declared.op.Owner.{Owner}
use Rattle.obj_kinds.specs.declared.op.Owner.TheVariants.{Object as ForObjects}
use Rattle.obj_kinds.specs.declared.op.Keep.{Keep}
use Rattle.obj_kinds.specs.declared.op.Keep.TheVariants.{Counted}
use Rattle.obj_kinds.specs.declared.op.Reply.TheVariants.{Granted}
use Rattle.obj_kinds.specs.Order.{covers}
use Rattle.lock_table.specs.declared.hold.Hold.{Hold}
use Rattle.lock_table.specs.declared.hold.Kept.{Kept}
use Rattle.lock_table.specs.Holds.{Holds, hold, is_same, is_exclusive, is_held, is_counted, kept, unheld, raised, granted, given_back, all_given_back, tran_ended, all_dropped, is_of, owner_rank, lowered, stays, one_back}
use Rattle.lock_table.specs.Conflict.{conflicts, refusing, told, asked}
use Rattle.lock_table.specs.Calls.{IsFree}
use Rattle.lock_table.proofs.HoldLaws.{one_hold}
use Rattle.lock_table.proofs.KeptLaws.{kept_granted, kept_given_back, kept_all_given_back, kept_tran_ended, kept_all_dropped}
use Rattle.global_tree.proofs.StepLaws.{covers_itself}
use Rattle.store_core.specs.Machine.{State, Sight, seen, is_open, turn, answer, after, reply}
use Rattle.store_core.specs.Guard.{HoldsToEnd}
use Rattle.store_core.proofs.GuardHolds.{not_same}
use Rattle.run_rules.proofs.Granted.{kept_asked}
use Rattle.storage_map.specs.Worlds.{owner}

-- the process has some hold on the node
abbrev pub HasHold : Holds → Pid → Node → Type 0
HasHold hs p n = (m : Mode) × (o : Owner) × (is_held (kept hs (hold p n m o)) ≡ true)

there : (hs : Holds) (h : Hold) → is_held (kept hs h) ≡ true → contains_key hs h ≡ true
there hs h e = by (get hs h) e
  where
    by : (o : Option Kept) → is_held (unwrap_or o unheld) ≡ true → is_some o ≡ true
    by None e = cc
    by (Some c) e = refl

held_to_end : (c : Kept) → c.to_end ≡ true → is_held c ≡ true
held_to_end c e = by (is_counted c) c.to_end e
  where
    by : (a b : Bool) → b ≡ true → (a || b) ≡ true
    by a b e = grind arith

both : (t c : Bool) → c ≡ true → (not t && true) && (c || c) ≡ false → t ≡ true
both true c e f = refl
both false true e f = cc
both false false e f = cc

tested : (p q : ℕ) → (p == q) ≡ true → p ≡ q
tested p q e = grind (arith, nat_tests)

-- who holds it exclusively to the end is the process itself
pub only_holder : (hs : Holds) (p q : Pid) (n : Node) → IsFree hs → HasHold hs p n → HoldsToEnd hs q n → q.0 ≡ p.0
unfolding conflicts
only_holder hs p q n free h k =
    let apart = free (hold q n Exclusive k.0) (hold p n h.0 h.1) (there hs _ (held_to_end _ k.1)) (there hs _ h.2) in
    tested q.0 p.0 (both (q.0 == p.0) _ (covers_itself n) apart)

-- who holds a node exclusively to the end keeps the others from holding one below it so
pub only_below : (hs : Holds) (p q : Pid) (x y : Node) → IsFree hs → HoldsToEnd hs p x → HoldsToEnd hs q y → covers x y ≡ true → q.0 ≡ p.0
unfolding conflicts
only_below hs p q x y free h k c =
    let apart = free (hold p x Exclusive h.0) (hold q y Exclusive k.0) (there hs _ (held_to_end _ h.1)) (there hs _ (held_to_end _ k.1)) in
    sym (tested p.0 q.0 (in_line (p.0 == q.0) (covers x y) (covers y x) c apart))
  where
    in_line : (t a b : Bool) → a ≡ true → ((not t && true) && (a || b)) ≡ false → t ≡ true
    in_line true a b e f = refl
    in_line false true b e f = cc f
    in_line false false b e f = cc e

-- ---- what the others leave

different : (x h : Hold) → x.pid.0 ≢ h.pid.0 → is_same x h ≡ false
different x h ne = by (is_same x h) refl
  where
    by : (b : Bool) → is_same x h ≡ b → is_same x h ≡ false
    by true e = absurd (ne (ap (λ (y : Hold). y.pid.0) (one_hold x h e)))
    by false e = e

asked_left : (hs : Holds) (h x : Hold) (k : Keep) → x.pid.0 ≢ h.pid.0 → kept (asked hs h k) x ≡ kept hs x
asked_left hs h x k ne = by (is_some (refusing hs h))
  where
    by : (b : Bool) → kept (cond b hs (granted hs h k)) x ≡ kept hs x
    by true = refl
    by false = kept_granted hs h x k ∙ ap (λ b. cond b (raised k (kept hs x)) (kept hs x)) (different x h ne)

ended_left : (hs : Holds) (q : Pid) (x : Hold) (b : Bool) → x.pid.0 ≢ q.0 → kept (cond b (tran_ended hs q) hs) x ≡ kept hs x
ended_left hs q x true ne = kept_tran_ended hs q x ∙ ap (λ b. cond b (record { counted = (kept hs x).counted; to_end = false }) (kept hs x)) (not_same x.pid.0 q.0 ne)
ended_left hs q x false ne = refl

back_left : (hs : Holds) (q : Pid) (o : Owner) (x : Hold) (b : Bool) → x.pid.0 ≢ q.0 → kept (all_given_back hs q o b) x ≡ kept hs x
back_left hs q o x b ne =
    let c = kept hs x in
    kept_all_given_back hs q o b x
    ∙ ap (λ y. cond ((y && owner_rank x.owner == owner_rank o) && is_counted c) (lowered (stays b x) 0 c) c) (not_same x.pid.0 q.0 ne)

turn_left : (s : Sight) (q : Pid) (op : Op) (x : Hold) → x.pid.0 ≢ q.0 → kept (turn s q op).holds x ≡ kept s.holds x
unfolding turn
turn_left s q (Lock n m o k) x ne = asked_left s.holds (hold q n m o) x k ne
turn_left s q (Unlock n m o) x ne = kept_given_back s.holds (hold q n m o) x (is_open s.levels) ∙ ap (λ b. cond b (cond (is_counted (kept s.holds x)) (one_back (is_open s.levels) x (kept s.holds x)) (kept s.holds x)) (kept s.holds x)) (different x (hold q n m o) ne)
turn_left s q (UnlockAll o) x ne = back_left s.holds q o x (is_open s.levels) ne
turn_left s q Commit x ne = ended_left s.holds q x _ ne
turn_left s q RollbackOne x ne = ended_left s.holds q x _ ne
turn_left s q RollbackAll x ne = ended_left s.holds q x _ ne
turn_left s q End x ne = kept_all_dropped s.holds q x ∙ ap (λ b. cond b unheld (kept s.holds x)) (not_same x.pid.0 q.0 ne)
turn_left s q _ x ne = refl

pub others_holds : (s : State) (q : Pid) (op : Op) (x : Hold) → x.pid.0 ≢ q.0 → kept (after s q op).holds x ≡ kept s.holds x
unfolding after
others_holds s q op x ne = turn_left (seen s q) q op x ne

pub hold_stays : (s : State) (p q : Pid) (op : Op) (n : Node) → q.0 ≢ p.0 → HasHold s.holds p n → HasHold (after s q op).holds p n
hold_stays s p q op n ne h = (h.0, h.1, ap is_held (others_holds s q op (hold p n h.0 h.1) (λ is. ne (sym is))) ∙ h.2)

-- ---- what a granted lock gives

pub holds_counted : (s : State) (p : Pid) (n : Node) (m : Mode) → reply s p (Lock n m ForObjects Counted) ≡ Granted → HasHold (after s p (Lock n m ForObjects Counted)).holds p n
unfolding reply answer after turn
holds_counted s p n m e = (m, ForObjects, ap is_held (kept_asked s.holds (hold p n m ForObjects) Counted e) ∙ one_more (kept s.holds (hold p n m ForObjects)).counted (kept s.holds (hold p n m ForObjects)).to_end)
  where
    one_more : (c : ℕ) (b : Bool) → is_held (record { counted = c + 1; to_end = b }) ≡ true
    one_more c b = by (nat_lt 0 (c + 1)) b (positive c)
      where
        by : (x y : Bool) → x ≡ true → (x || y) ≡ true
        by x y e = grind arith

        positive : (c : ℕ) → nat_lt 0 (c + 1) ≡ true
        positive c = grind (arith, nat_tests)
